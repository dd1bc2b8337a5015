-- What a pointer leads to and what an operation does, in the words of RFC 6901, section 4, and RFC 6902, section 4: as relations, which use
-- `decimal` and `equal` but no function of Pointer or Operation. proofs/EffectsTheorem proves that `walk` and `perform` are these.
use Rattle.std.specs.Prelude.{◌≡◌, ◌↔◌, ℕ, suc, ◌≤◌, ◌<◌, [], ◌∷◌, true, false}
use Prim.Native.Char.{code}
use Rattle.spec.specs.Outcome.{ok, refused}
use Rattle.spec.specs.Refusal.{location_missing, no_index, remove_of_root, test_differs}
use Rattle.spec.specs.Bytes.{Text}
use Rattle.spec.specs.Worth.{decimal}
use Rattle.spec.specs.Forest.{none, tree, count, ◌⧺◌}
use Rattle.spec.specs.Value as Value
use Rattle.spec.specs.Value.{Label, Entry, Members}
use Rattle.spec.specs.Equality.{equal}
use Rattle.spec.specs.Pointer.{Tokens, walk}
use Rattle.spec.specs.Operation.{Kind, Operation, perform}
use Rattle.spec.specs.Patch.{which_pointer}

-- *(%x30-39)
pub data Digits : Text → Type 0 where
  no_more : Digits []
  digit : {d : ℕ} {ds : Text} → code "0" ≤ d → d ≤ code "9" → Digits ds → Digits (d ∷ ds)

-- "array-index = %x30 / ( %x31-39 *(%x30-39) )", "characters [..] that represent an unsigned base-10 integer value"
pub data ArrayIndex : Text → ℕ → Type 0 where
  zero : ArrayIndex (code "0" ∷ []) 0
  nonzero : {d : ℕ} {ds : Text} → code "1" ≤ d → d ≤ code "9" → Digits ds → ArrayIndex (d ∷ ds) (decimal 0 (d ∷ ds))

-- none of these members has the name
pub data Without (n : Text) : Members → Type 0 where
  nothing : Without n none
  another : {e : Entry} {kids rest : Members} → (e.name ≡ n → ⊥) → Without n rest → Without n (tree e kids rest)

-- a value under a name, and the values after it
abbrev pub node : Text → Value.Value → Members → Members
node name x after = tree (record { name = name; label = x.label }) x.kids after

-- the same container with other values in it
abbrev pub holding : Value.Value → Members → Value.Value
holding v f = record { label = v.label; kids = f }

-- `Child t v name x before after`: the token t names the value x in v; it stands under its name, after `before` and in front of `after`.
pub data Child (t : Text) (v : Value.Value) : Text → Value.Value → Members → Members → Type 0 where
  -- "If the currently referenced value is a JSON object, the new referenced value is the object member with the name identified by the
  -- reference token."
  member : {x : Value.Value} {before after : Members} → v.label ≡ Label.object → v.kids ≡ before ⧺ node t x after → Without t before →
      Child t v t x before after
  -- "If the currently referenced value is a JSON array, [..] the array element with the zero-based index identified by the token"
  element : {name : Text} {x : Value.Value} {before after : Members} → v.label ≡ Label.array → v.kids ≡ before ⧺ node name x after →
      ArrayIndex t (count before) → Child t v name x before after

-- "Evaluation of a JSON Pointer begins with a reference to the root value of a JSON document [..]. Each reference token in the JSON Pointer is
-- evaluated sequentially."
pub data Evaluates : Tokens → Value.Value → Value.Value → Type 0 where
  root : {v : Value.Value} → Evaluates [] v v
  step : {t name : Text} {ts : Tokens} {v x w : Value.Value} {before after : Members} → Child t v name x before after → Evaluates ts x w →
      Evaluates (t ∷ ts) v w

-- A change where a pointer's last token applies: all other values stay, each under its name and in its place.
pub data Below (Change : Text → Value.Value → Value.Value → Type 0) : Tokens → Value.Value → Value.Value → Type 0 where
  there : {t : Text} {v w : Value.Value} → Change t v w → Below Change (t ∷ []) v w
  deeper : {t u name : Text} {ts : Tokens} {v x y : Value.Value} {before after : Members} → Child t v name x before after →
      Below Change (u ∷ ts) x y → Below Change (t ∷ u ∷ ts) v (holding v (before ⧺ node name y after))

-- the second pointer parts from the first before the first's last token
pub data Parts : Tokens → Tokens → Type 0 where
  here : {t t' u : Text} {ts us : Tokens} → (t ≡ u → ⊥) → Parts (t ∷ t' ∷ ts) (u ∷ us)
  later : {t t' : Text} {ts us : Tokens} → Parts (t' ∷ ts) us → Parts (t ∷ t' ∷ ts) (t ∷ us)

-- 4.1, add, of a value x
pub data Adds (x : Value.Value) : Text → Value.Value → Value.Value → Type 0 where
  -- "If the target location specifies an object member that does not already exist, a new member is added to the object."
  new-member : {t : Text} {v : Value.Value} → v.label ≡ Label.object → Without t v.kids → Adds x t v (holding v (v.kids ⧺ node t x none))
  -- "If the target location specifies an object member that does exist, that member's value is replaced."
  existing-member : {t name : Text} {v y : Value.Value} {before after : Members} → v.label ≡ Label.object → Child t v name y before after →
      Adds x t v (holding v (before ⧺ node name x after))
  -- "If the target location specifies an array index, a new value is inserted into the array at the specified index": "any elements at or
  -- above the specified index are shifted one position to the right. The specified index MUST NOT be greater than the number of elements".
  element : {t : Text} {v : Value.Value} (before after : Members) → v.label ≡ Label.array → v.kids ≡ before ⧺ after →
      ArrayIndex t (count before) → Adds x t v (holding v (before ⧺ node [] x after))
  -- "If the "-" character is used to index the end of the array [..], this has the effect of appending the value to the array."
  appended : {v : Value.Value} → v.label ≡ Label.array → Adds x (code "-" ∷ []) v (holding v (v.kids ⧺ node [] x none))

pub data Added (x : Value.Value) : Tokens → Value.Value → Value.Value → Type 0 where
  -- "The root of the target document - whereupon the specified value becomes the entire content of the target document."
  root : {v : Value.Value} → Added x [] v x
  below : {ts : Tokens} {v w : Value.Value} → Below (Adds x) ts v w → Added x ts v w

-- where an added value is found afterwards: at the same pointer, but the index of the array's end stands for a last `-`
pub data FoundAt : Tokens → Value.Value → Tokens → Type 0 where
  root : {v : Value.Value} → FoundAt [] v []
  member : {t : Text} {v : Value.Value} → v.label ≡ Label.object → FoundAt (t ∷ []) v (t ∷ [])
  index : {t : Text} {v : Value.Value} (k : ℕ) → v.label ≡ Label.array → ArrayIndex t k → FoundAt (t ∷ []) v (t ∷ [])
  end : {u : Text} {v : Value.Value} → v.label ≡ Label.array → ArrayIndex u (count v.kids) → FoundAt ((code "-" ∷ []) ∷ []) v (u ∷ [])
  below : {t u name : Text} {ts us : Tokens} {v x : Value.Value} {before after : Members} → Child t v name x before after →
      FoundAt (u ∷ ts) x us → FoundAt (t ∷ u ∷ ts) v (t ∷ us)

-- 4.2, remove: "The target location MUST exist for the operation to be successful. If removing an element from an array, any elements above the
-- specified index are shifted one position to the left."
pub data Removes : Text → Value.Value → Value.Value → Type 0 where
  removed : {t name : Text} {v x : Value.Value} {before after : Members} → Child t v name x before after →
      Removes t v (holding v (before ⧺ after))

-- 4.3, replace, by a value x: "The target location MUST exist for the operation to be successful."
pub data Replaces (x : Value.Value) : Text → Value.Value → Value.Value → Type 0 where
  replaced : {t name : Text} {v y : Value.Value} {before after : Members} → Child t v name y before after →
      Replaces x t v (holding v (before ⧺ node name x after))

-- `Performs o v w`: the operation o makes w of v.
pub data Performs (o : Operation) (v : Value.Value) : Value.Value → Type 0 where
  add : {w : Value.Value} → o.kind ≡ Kind.add → Added o.value o.path v w → Performs o v w
  remove : {w : Value.Value} → o.kind ≡ Kind.remove → Below Removes o.path v w → Performs o v w
  replace : {w : Value.Value} → o.kind ≡ Kind.replace → Below (Replaces o.value) o.path v w → Performs o v w
  replace_root : o.kind ≡ Kind.replace → o.path ≡ [] → Performs o v o.value
  -- 4.4, move: "functionally identical to a "remove" operation on the "from" location, followed immediately by an "add" operation at the target
  -- location with the value that was just removed". SPECIFICATION 6.5: root to root changes nothing. The root is moved nowhere else.
  move : {x left w : Value.Value} → o.kind ≡ Kind.move → Evaluates o.from v x → Below Removes o.from v left → Added x o.path left w →
      Performs o v w
  move_root : o.kind ≡ Kind.move → o.from ≡ [] → Performs o v v
  -- 4.5, copy: "functionally identical to an "add" operation at the target location using the value specified in the "from" member"
  copy : {x w : Value.Value} → o.kind ≡ Kind.copy → Evaluates o.from v x → Added x o.path v w → Performs o v w
  -- 4.6, test: "The target location MUST be equal to the "value" value for the operation to be considered successful."
  test : {found : Value.Value} → o.kind ≡ Kind.test → Evaluates o.path v found → equal found o.value ≡ true → Performs o v v

-- Refusals: SPECIFICATION 6.

-- `NoChild t v n`: in v the token t names nothing, and n is the refusal: SPECIFICATION 6.1.
pub data NoChild (t : Text) (v : Value.Value) : ℕ → Type 0 where
  -- on a scalar: 11
  scalar : (v.label ≡ Label.array → ⊥) → (v.label ≡ Label.object → ⊥) → NoChild t v location_missing
  -- on an object that has no member so named: 11
  no_member : v.label ≡ Label.object → Without t v.kids → NoChild t v location_missing
  -- on an array: `-` is 11;
  after_last : v.label ≡ Label.array → t ≡ code "-" ∷ [] → NoChild t v location_missing
  -- a token that is not `0`, and not a nonzero digit with any digits after it, is 12;
  not_index : v.label ≡ Label.array → (t ≡ code "-" ∷ [] → ⊥) → ((k : ℕ) → ArrayIndex t k → ⊥) → NoChild t v no_index
  -- an index not below the length, however long, is 11
  too_large : (k : ℕ) → v.label ≡ Label.array → ArrayIndex t k → count v.kids ≤ k → NoChild t v location_missing

-- `LeadsNowhere ts v n k`: after k of the tokens ts the next one names nothing. T-01: "the count of tokens walked before the one that failed".
pub data LeadsNowhere : Tokens → Value.Value → ℕ → ℕ → Type 0 where
  here : {t : Text} {ts : Tokens} {v : Value.Value} {n : ℕ} → NoChild t v n → LeadsNowhere (t ∷ ts) v n 0
  later : {t name : Text} {ts : Tokens} {v x : Value.Value} {before after : Members} {n k : ℕ} → Child t v name x before after →
      LeadsNowhere ts x n k → LeadsNowhere (t ∷ ts) v n (suc k)

-- a change refused where a pointer's last token applies, or a parent that is missing; with the same count
pub data Fails (Refused : Text → Value.Value → ℕ → Type 0) : Tokens → Value.Value → ℕ → ℕ → Type 0 where
  there : {t : Text} {v : Value.Value} {n : ℕ} → Refused t v n → Fails Refused (t ∷ []) v n 0
  no_parent : {t u : Text} {ts : Tokens} {v : Value.Value} {n : ℕ} → NoChild t v n → Fails Refused (t ∷ u ∷ ts) v n 0
  deeper : {t u name : Text} {ts : Tokens} {v x : Value.Value} {before after : Members} {n k : ℕ} → Child t v name x before after →
      Fails Refused (u ∷ ts) x n k → Fails Refused (t ∷ u ∷ ts) v n (suc k)

-- SPECIFICATION 6.2: in an array, `-` appends, an index up to the length inserts, a greater one is 11.
pub data NotAdded (t : Text) (v : Value.Value) : ℕ → Type 0 where
  scalar : (v.label ≡ Label.array → ⊥) → (v.label ≡ Label.object → ⊥) → NotAdded t v location_missing
  not_index : v.label ≡ Label.array → (t ≡ code "-" ∷ [] → ⊥) → ((k : ℕ) → ArrayIndex t k → ⊥) → NotAdded t v no_index
  too_large : (k : ℕ) → v.label ≡ Label.array → ArrayIndex t k → count v.kids < k → NotAdded t v location_missing

-- `Refuses o v n k p`: the operation o is refused on v with the number n. With 11 and 12, k tokens were walked of the pointer p. T-01: "it
-- is 1 for `path` and 2 for `from`, with all other numbers 0".
pub data Refuses (o : Operation) (v : Value.Value) : ℕ → ℕ → ℕ → Type 0 where
  add : {n k : ℕ} → o.kind ≡ Kind.add → Fails NotAdded o.path v n k → Refuses o v n k 1
  remove : {n k : ℕ} → o.kind ≡ Kind.remove → Fails NoChild o.path v n k → Refuses o v n k 1
  -- SPECIFICATION 6.3: "The root is 13."
  remove_root : o.kind ≡ Kind.remove → o.path ≡ [] → Refuses o v remove_of_root 0 0
  replace : {n k : ℕ} → o.kind ≡ Kind.replace → Fails NoChild o.path v n k → Refuses o v n k 1
  move : {n k : ℕ} → o.kind ≡ Kind.move → LeadsNowhere o.from v n k → Refuses o v n k 2
  move_add : {x left : Value.Value} {n k : ℕ} → o.kind ≡ Kind.move → Evaluates o.from v x → Below Removes o.from v left →
      Fails NotAdded o.path left n k → Refuses o v n k 1
  copy : {n k : ℕ} → o.kind ≡ Kind.copy → LeadsNowhere o.from v n k → Refuses o v n k 2
  copy_add : {x : Value.Value} {n k : ℕ} → o.kind ≡ Kind.copy → Evaluates o.from v x → Fails NotAdded o.path v n k → Refuses o v n k 1
  test : {n k : ℕ} → o.kind ≡ Kind.test → LeadsNowhere o.path v n k → Refuses o v n k 1
  -- SPECIFICATION 6.7: it must be equal, otherwise 15
  differs : {found : Value.Value} → o.kind ≡ Kind.test → Evaluates o.path v found → equal found o.value ≡ false →
      Refuses o v test_differs 0 0

pub record EffectsStatement : Type 1 where
  -- The walk is RFC 6901's evaluation, and is refused exactly as SPECIFICATION 6.1 says.
  pub walks : (ts : Tokens) (v w : Value.Value) → walk ts v ≡ ok w ↔ Evaluates ts v w
  pub walk_refused : (ts : Tokens) (v : Value.Value) (n k : ℕ) → walk ts v ≡ refused n k ↔ LeadsNowhere ts v n k
  -- The operations are RFC 6902's, and are refused exactly as SPECIFICATION 6 says.
  pub performs : (o : Operation) (v w : Value.Value) → perform o v ≡ ok w ↔ Performs o v w
  pub refuses : (o : Operation) (v : Value.Value) (n k p : ℕ) → ((perform o v ≡ refused n k) × (which_pointer o v n ≡ p)) ↔ Refuses o v n k p
  -- So a pointer that parts from the path of a change leads to what it led to before.
  pub untouched : (Change : Text → Value.Value → Value.Value → Type 0) (ts us : Tokens) (v w : Value.Value) → Below Change ts v w → Parts ts us →
      walk us w ≡ walk us v
  -- What is added or replaced is found there.
  pub added_found : (x : Value.Value) (ts us : Tokens) (v w : Value.Value) → Added x ts v w → FoundAt ts v us → Evaluates us w x
  pub replaced-found : (x : Value.Value) (ts : Tokens) (v w : Value.Value) → Below (Replaces x) ts v w → Evaluates ts w x
