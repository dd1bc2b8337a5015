-- Two makers' patches in regions of their own: SPECIFICATION 9, sentence by sentence. The last two records are the statement, and
-- Demand3 says it of every situation.
use Rattle.std.specs.Prelude.{◌≡◌, ℕ, ◌+◌, ◌≤◌, Bool, true, false, ◌&&◌, ◌||◌, not, List, [], ◌∷◌, ◌++◌, length, leb, eqb, if◌then◌else◌}
use Rattle.std.proofs.Math.Option.{Option, none, some}
use Rattle.spec.specs.Outcome.{Outcome, ok, refused, ◌>>=◌}
use Rattle.spec.specs.Refusal.{work_too_short, too_many_nodes, output_too_short}
use Rattle.spec.specs.Limits.{max_bytes, max_nodes}
use Rattle.spec.specs.Bytes.{Bytes}
use Rattle.spec.specs.Value as Value
use Rattle.spec.specs.Value.{same_text, nodes}
use Rattle.spec.specs.Read.{read}
use Rattle.spec.specs.Write.{write}
use Rattle.spec.specs.Pointer.{Tokens}
use Rattle.spec.specs.Operation.{Operation, perform, not_too_deep}
use Rattle.spec.specs.Patch.{Stop, stop, Run, finished, stopped, uses_from, proper_prefix, shape, run}
use Rattle.spec.specs.Answer.{Lent, answer, success, refusal, failure}
use Rattle.spec.specs.Elements.{ElementsOf}

-- Regions, SPECIFICATION 9.1: "A region is a pointer, whether or not the document has a value there. Tokens are compared unescaped."

-- whether the second pointer begins with the tokens of the first
unfoldable pub is_prefix : Tokens → Tokens → Bool
is_prefix [] us = true
is_prefix (t ∷ ts) [] = false
is_prefix (t ∷ ts) (u ∷ us) = same_text t u && is_prefix ts us

-- "Two regions are apart if neither's tokens are a prefix of the other's."
unfoldable pub apart : Tokens → Tokens → Bool
apart R S = not (is_prefix R S) && not (is_prefix S R)

-- "A patch is strictly inside a region if every `path`, and every `from` that is used, begins with the region's tokens and has at least one more."
unfoldable pub strictly_inside : Tokens → Operation → Bool
strictly_inside R o = proper_prefix R o.path && (not (uses_from o.kind) || proper_prefix R o.from)

unfoldable pub all_inside : Tokens → List Operation → Bool
all_inside R [] = true
all_inside R (o ∷ os) = strictly_inside R o && all_inside R os

-- Texts, SPECIFICATION 9.2: "A document is accepted if neither its length nor its reading is refused. A patch is well formed if neither its
-- length, its reading nor its shape is refused. It may be empty."

pub record Accepted (text : Bytes) (document : Value.Value) : Type 0 where
  pub fits : length text ≤ max_bytes
  pub reads : read text ≡ ok document

pub record WellFormed (text : Bytes) (operations : List Operation) : Type 0 where
  pub fits : length text ≤ max_bytes
  pub patch : Value.Value
  pub reads : read text ≡ ok patch
  pub shaped : shape patch ≡ finished operations

-- the third list has the entries of the other two, those of each in the order they have there
pub data Shuffle {A : Type 0} : List A → List A → List A → Type 0 where
  done : Shuffle [] [] []
  left : {x : A} {xs ys zs : List A} → Shuffle xs ys zs → Shuffle (x ∷ xs) ys (x ∷ zs)
  right : {y : A} {xs ys zs : List A} → Shuffle xs ys zs → Shuffle xs (y ∷ ys) (y ∷ zs)

-- "A shuffle of two patches is a well-formed patch text. Its elements are those of both patches, each with its own bytes. The elements of
-- one patch have the order they have there. Blanks between elements don't matter."
pub record ShuffleText (first second both : Bytes) : Type 0 where
  pub firsts : List Bytes
  pub seconds : List Bytes
  pub all : List Bytes
  pub first-elements : ElementsOf first firsts
  pub second-elements : ElementsOf second seconds
  pub all-elements : ElementsOf both all
  pub order : Shuffle firsts seconds all

-- "Buffers are enough when neither 1 nor 16 applies."
pub record Enough (document patch : Bytes) (lent : Lent) : Type 0 where
  pub work : (answer document patch lent).number ≡ work_too_short → ⊥
  pub output : (answer document patch lent).number ≡ output_too_short → ⊥

-- Runs, SPECIFICATION 9.3: "Each operation gets the document that the one before left, by section 6 with 5 after it, but never 6."

unfoldable pub bare : Operation → Value.Value → Outcome Value.Value
bare o v = perform o v >>= not_too_deep

-- "The bare run of a list of operations starts from the document as read." Of one patch's operations it is what is called "alone", of one
-- patch's followed by the other's "joined".
abbrev pub bare_run : List Operation → Value.Value → Run Value.Value
bare_run os document = run bare 1 os document

-- "If none fails, the run succeeds, and its text is the last document, written."
pub record SucceedsWith (r : Run Value.Value) (text : Bytes) : Type 0 where
  pub last : Value.Value
  pub finishes : r ≡ finished last
  pub writes : write last ≡ text

unfoldable pub succeeds : {A : Type 0} → Run A → Bool
succeeds (finished a) = true
succeeds (stopped s) = false

-- where a run stops, if that is at its operation op
unfoldable pub ends_at : {A : Type 0} → ℕ → Run A → Option Stop
ends_at op (finished a) = none
ends_at op (stopped s) = if eqb op s.op then some s else none

-- the operation op with the stop of its own list, where that ends there; otherwise what comes later
unfoldable pub here_or : ℕ → Option Stop → Option Stop → Option Stop
here_or op (some s) later = some (stop s.number op s.place s.pointer)
here_or op none later = later

-- an operation of a shuffle: of the first patch or of the second, by its op there
pub data Turn : Type 0 where
  of_first : ℕ → Turn
  of_second : ℕ → Turn

-- the operations of a shuffle in order, where i and j are the next ops of the two patches
unfoldable pub turns : {A : Type 0} {xs ys zs : List A} → Shuffle xs ys zs → ℕ → ℕ → List Turn
turns done i j = []
turns (left s) i j = of_first i ∷ turns s (i + 1) j
turns (right s) i j = of_second j ∷ turns s i (j + 1)

-- where an operation's own patch ends alone, if that is at this operation, by what the two patches come to alone
unfoldable pub ends_alone : {A : Type 0} → Run A → Run A → Turn → Option Stop
ends_alone p q (of_first i) = ends_at i p
ends_alone p q (of_second j) = ends_at j q

-- "The first operation in it at which that operation's own patch ends alone": as it stops there, but with its op in the shuffle. The next one
-- is op.
unfoldable pub first_end : {A : Type 0} → Run A → Run A → ℕ → List Turn → Option Stop
first_end p q op [] = none
first_end p q op (t ∷ ts) = here_or op (ends_alone p q t) (first_end p q (op + 1) ts)

-- the first operation of a bare run that leaves more than 2,048 nodes, if one does; the next one is op
unfoldable pub first_too_large : ℕ → List Operation → Value.Value → Option ℕ
first_too_large op [] v = none
first_too_large op (o ∷ os) v =
    elim (bare o v) [
      | ok w ↦ if leb (nodes w) max_nodes then first_too_large (op + 1) os w else some op
      | refused number place ↦ none
    ]

-- The statement, SPECIFICATION 9.4: "Take an accepted document, two well-formed patches, each strictly inside a region of its own, the two
-- regions apart, and any shuffle of the patches, with buffers enough for the call on the shuffle. Then:"
pub record Situation
    (D P Q Z : Bytes) (lent : Lent) (R S : Tokens) (document : Value.Value) (xs ys zs : List Operation) : Type 0 where
  pub accepted : Accepted D document
  pub first : WellFormed P xs
  pub second : WellFormed Q ys
  pub both : WellFormed Z zs
  pub shuffle : ShuffleText P Q Z
  pub regions : apart R S ≡ true
  pub first-inside : all_inside R xs ≡ true
  pub second-inside : all_inside S ys ≡ true
  pub enough : Enough D Z lent

pub record RegionStatement {D P Q Z : Bytes} {lent : Lent} {R S : Tokens} {document : Value.Value} {xs ys zs : List Operation}
    (c : Situation D P Q Z lent R S document xs ys zs) : Type 0 where
  -- "If both succeed alone, the shuffle's bare run succeeds. Its text is byte for byte that of the two joined, in either order."
  pub both_succeed : (t t' : Bytes) → SucceedsWith (bare_run xs document) t → SucceedsWith (bare_run ys document) t' →
      (text : Bytes) × SucceedsWith (bare_run zs document) text × SucceedsWith (bare_run (xs ++ ys) document) text ×
      SucceedsWith (bare_run (ys ++ xs) document) text
  -- "Otherwise the shuffle's bare run ends at the first operation in it at which that operation's own patch ends alone, with the same number;
  -- and with the same place and pointer."
  pub otherwise : (succeeds (bare_run xs document) && succeeds (bare_run ys document)) ≡ false →
      (s : Stop) × (first_end (bare_run xs document) (bare_run ys document) 1 (turns c.shuffle.order 1 1) ≡ some s) ×
      (bare_run zs document ≡ stopped s)
  -- "If an operation of the shuffle's bare run leaves more than 2,048 nodes, the call on the shuffle answers 6 with the op of the first
  -- such one."
  pub call_too_large : (op : ℕ) → first_too_large 1 zs document ≡ some op → answer D Z lent ≡ refusal too_many_nodes 0 op 0
  -- "Otherwise the call answers the bare run's number, op, place and pointer,
  pub call_refused : (s : Stop) → first_too_large 1 zs document ≡ none → bare_run zs document ≡ stopped s →
      answer D Z lent ≡ failure s
  -- or it answers 0 and writes the run's text."
  pub call_succeeds : (text : Bytes) → first_too_large 1 zs document ≡ none → SucceedsWith (bare_run zs document) text →
      answer D Z lent ≡ success text
