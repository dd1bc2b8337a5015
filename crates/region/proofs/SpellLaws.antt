-- How a pointer's text spells its tokens, character by character. A token is spelled in one way, so that two texts compared as they stand tell
-- whether the tokens of one are a proper prefix of the other's.
use mathlib.Core.Path.{◌≡◌, refl, ap, ap₂, sym, subst, ◌∙◌}
use mathlib.Core.Bool.{Bool, true, false, ◌&&◌}
use mathlib.Core.List.{List, [], ◌∷◌}
use Prim.Native.Nat.{ℕ}
use Prim.Native.Char.{code}
use native.Mathlib.Omega.{arith}
use native.Mathlib.Decide.{ℕ_discrete}
use lib.Dec.{eqb}
use borrow.Author.Tests.{eq-eqb, ne_eqb}
use Rattle.spec.specs.Outcome.{ok, ◌>>=◌}
use Rattle.spec.specs.Bytes.{Text}
use Rattle.spec.specs.Value.{same_text}
use Rattle.spec.specs.Pointer.{Tokens, prepend, segments, tilde, unescape, unescape_all, tokens}
use Rattle.spec.specs.Patch.{proper_prefix}
use Rattle.spec.proofs.OutcomeLaws.{refused≢ok, both_ok}
use Rattle.pointer.proofs.ScanLaws.{segments_slash, segments_more}
use Rattle.region.specs.Begins.{begins}

-- ---- the spelling of a first token and of the others, behind a slash; `escaped` says that a `~` stands before

data Spells : Bool → Text → Text → Tokens → Type 0 where
  ends : Spells false [] [] []
  slash : {s t : Text} {ts : Tokens} → Spells false s t ts → Spells false (code "/" ∷ s) [] (t ∷ ts)
  plain : {c : ℕ} {s t : Text} {ts : Tokens} → (c ≡ code "/" → ⊥) → (c ≡ code "~" → ⊥) → Spells false s t ts → Spells false (c ∷ s) (c ∷ t) ts
  escape : {s t : Text} {ts : Tokens} → Spells true s t ts → Spells false (code "~" ∷ s) t ts
  zero : {s t : Text} {ts : Tokens} → Spells false s t ts → Spells true (code "0" ∷ s) (code "~" ∷ t) ts
  one : {s t : Text} {ts : Tokens} → Spells false s t ts → Spells true (code "1" ∷ s) (code "/" ∷ t) ts

-- ---- two spellings

-- what an escape stands for is a character, and one that is not written as it is
not_empty : {s t : Text} {ts : Tokens} → Spells true s t ts → same_text [] t ≡ false
unfolding same_text
not_empty (zero p) = refl
not_empty (one p) = refl

empty_not : {s t : Text} {ts : Tokens} → Spells true s t ts → same_text t [] ≡ false
unfolding same_text
empty_not (zero p) = refl
empty_not (one p) = refl

module _ {c : ℕ} (f : c ≡ code "/" → ⊥) (g : c ≡ code "~" → ⊥) (u : Text) where
  not_plain : {s t : Text} {ts : Tokens} → Spells true s t ts → same_text t (c ∷ u) ≡ false
  unfolding same_text
  not_plain (zero p) = rw (ne_eqb (code "~") c (λ e. g (sym e)))
  not_plain (one p) = rw (ne_eqb (code "/") c (λ e. f (sym e)))

  plain_not : {s t : Text} {ts : Tokens} → Spells true s t ts → same_text (c ∷ u) t ≡ false
  unfolding same_text
  plain_not (zero p) = rw (ne_eqb c (code "~") g)
  plain_not (one p) = rw (ne_eqb c (code "/") f)

both_assoc : (a b c : Bool) → (a && (b && c)) ≡ ((a && b) && c)
both_assoc true b c = refl
both_assoc false b c = refl

same_spelling : {escaped : Bool} {r s t u : Text} {ts us : Tokens} → Spells escaped r t ts → Spells escaped s u us →
    begins r s ≡ (same_text t u && proper_prefix ts us)
unfolding begins same_text proper_prefix
same_spelling ends ends = refl
same_spelling ends (slash q) = refl
same_spelling ends (plain f g q) = ne_eqb _ (code "/") f
same_spelling ends (escape q) = rw (not_empty q)
same_spelling (slash p) ends = refl
same_spelling (slash p) (slash q) = same_spelling p q
same_spelling (slash p) (plain {c} f g q) = rw (ne_eqb (code "/") c (λ e. f (sym e)))
same_spelling (slash p) (escape q) = rw (not_empty q)
same_spelling (plain f g p) ends = refl
same_spelling (plain {c} f g p) (slash q) = rw (ne_eqb c (code "/") f)
same_spelling (plain {c} f g p) (plain {c = d} h i q) = ap (λ b. eqb c d && b) (same_spelling p q) ∙ both_assoc (eqb c d) _ _
same_spelling (plain {c} {t = t} f g p) (escape q) = rw (plain_not f g t q, ne_eqb c (code "~") g)
same_spelling (escape p) ends = rw (empty_not p)
same_spelling (escape p) (slash q) = rw (empty_not p)
same_spelling (escape p) (plain {c} {t = t} f g q) = rw (not_plain f g t p, ne_eqb (code "~") c (λ e. g (sym e)))
same_spelling (escape p) (escape q) = same_spelling p q
same_spelling (zero p) (zero q) = same_spelling p q
same_spelling (zero p) (one q) = refl
same_spelling (one p) (zero q) = refl
same_spelling (one p) (one q) = same_spelling p q

-- ---- every text that has tokens spells them

record Spelled (escaped : Bool) (s : Text) (us : Tokens) : Type 0 where
  first : Text
  rest : Tokens
  is : us ≡ first ∷ rest
  spells : Spells escaped s first rest

-- the first segment of the text
record Segments (s : Text) : Type 0 where
  first : Text
  rest : List Text
  is : segments s ≡ first ∷ rest

prepended : (c : ℕ) (s : Text) → Segments s → (ts : List Text) → ts ≡ prepend c (segments s) → (t : Text) × (us : List Text) × (ts ≡ t ∷ us)
unfolding prepend
prepended c s g ts e = (c ∷ g.first, g.rest, e ∙ ap (prepend c) g.is)

segmented : (s : Text) → Segments s
unfolding segments
segmented [] = record { first = []; rest = []; is = refl }
segmented (c ∷ s) = go (ℕ_discrete c (code "/")) (segmented s)
  where
    go : Dec (c ≡ code "/") → Segments s → Segments (c ∷ s)
    go (yes e) g = record { first = []; rest = segments s; is = segments_slash c s e }
    go (no e) g = let (t, us, is) = prepended c s g _ refl in record { first = t; rest = us; is = segments_more c s e ∙ is }

-- a first segment and the others, unescaped
all_parts : (t : Text) (ts : List Text) (us : Tokens) → unescape_all (t ∷ ts) ≡ ok us →
    (u : Text) × (rest : Tokens) × (unescape false t ≡ ok u) × (unescape_all ts ≡ ok rest) × (us ≡ u ∷ rest)
unfolding unescape_all
all_parts t ts us h =
    let (u, e, k) = both_ok (unescape false t) _ us h in
    let (rest, f, l) = both_ok (unescape_all ts) _ us k in
    let same : us ≡ u ∷ rest = cc in
    (u, rest, e, f, same)

module _ (c : ℕ) (t : Text) where
  plain-unescaped : (c ≡ code "~" → ⊥) → unescape false (c ∷ t) ≡ (unescape false t >>= λ u. ok (c ∷ u))
  unfolding unescape
  plain-unescaped n = rw (ne_eqb c (code "~") n)

  tilde-unescaped : c ≡ code "~" → unescape false (c ∷ t) ≡ unescape true t
  unfolding unescape
  tilde-unescaped e = rw (eq-eqb c (code "~") e)

plain_part : (c : ℕ) (t u : Text) → (c ≡ code "~" → ⊥) → unescape false (c ∷ t) ≡ ok u → (v : Text) × (unescape false t ≡ ok v) × (u ≡ c ∷ v)
plain_part c t u n h =
    let (v, e, k) = both_ok (unescape false t) _ u (sym (plain-unescaped c t n) ∙ h) in
    let same : u ≡ c ∷ v = cc in
    (v, e, same)

-- what stands after a `~`, and what it stands for
data Escape : ℕ → ℕ → Type 0 where
  zero : Escape (code "0") (code "~")
  one : Escape (code "1") (code "/")

escaped_as : (c d : ℕ) → tilde c ≡ ok d → Escape c d
unfolding tilde
escaped_as c d h = go (ℕ_discrete c (code "0")) (ℕ_discrete c (code "1"))
  where
    go : Dec (c ≡ code "0") → Dec (c ≡ code "1") → Escape c d
    go (yes e) f = as_zero (rw e at h) e
      where
        as_zero : ok (code "~") ≡ ok d → c ≡ code "0" → Escape c d
        as_zero k e = let same : code "~" ≡ d = cc in rw (e, ← same) zero
    go (no e) (yes f) = as_one (rw f at h) f
      where
        as_one : ok (code "/") ≡ ok d → c ≡ code "1" → Escape c d
        as_one k f = let same : code "/" ≡ d = cc in rw (f, ← same) one
    go (no e) (no f) = absurd (refused≢ok (rw (ne_eqb c (code "0") e, ne_eqb c (code "1") f) at h))

escape-part : (c : ℕ) (t u : Text) → unescape true (c ∷ t) ≡ ok u → (d : ℕ) × (v : Text) × Escape c d × (unescape false t ≡ ok v) × (u ≡ d ∷ v)
unfolding unescape
escape-part c t u h =
    let (d, e, k) = both_ok (tilde c) _ u h in
    let (v, f, l) = both_ok (unescape false t) _ u k in
    let same : u ≡ d ∷ v = cc in
    (d, v, escaped_as c d e, f, same)

-- the others behind what was taken off the first
joined : (t : Text) (ts : List Text) (u : Text) (rest : Tokens) → unescape false t ≡ ok u → unescape_all ts ≡ ok rest → unescape_all (t ∷ ts) ≡ ok (u ∷ rest)
unfolding unescape_all ◌>>=◌
joined t ts u rest e f = rw (e, f)

-- one character more, in either state
record Both (s : Text) : Type 0 where
  in_token : (us : Tokens) → unescape_all (segments s) ≡ ok us → Spelled false s us
  after_tilde_lem : (us : Tokens) → unescape_all (prepend (code "~") (segments s)) ≡ ok us → Spelled true s us

spelled_as : {escaped : Bool} {s t : Text} {rest us : Tokens} → us ≡ t ∷ rest → Spells escaped s t rest → Spelled escaped s us
spelled_as {t = t} {rest} e p = record { first = t; rest = rest; is = e; spells = p }

-- a spelling of tokens that are known
spelled_of : {escaped : Bool} {s u : Text} {rest : Tokens} → Spelled escaped s (u ∷ rest) → Spells escaped s u rest
spelled_of {escaped} {s} {u} {rest} g =
    let one : g.first ≡ u = cc in
    let two : g.rest ≡ rest = cc in
    subst (λ t. Spells escaped s t rest) one (subst (Spells escaped s g.first) two g.spells)

module _ (c : ℕ) (s : Text) (ih : Both s) where
  token_slash : c ≡ code "/" → (us : Tokens) → unescape_all (segments (c ∷ s)) ≡ ok us → Spelled false (c ∷ s) us
  unfolding unescape
  token_slash e us h =
      let (u, rest, a, b, is) = all_parts [] (segments s) us (sym (ap unescape_all (segments_slash c s e)) ∙ h) in
      let none_so : u ≡ [] = cc in
      let g = ih.in_token rest b in
      rw e (spelled_as (is ∙ ap₂ ◌∷◌ none_so g.is) (slash g.spells))

  token-tilde : c ≡ code "~" → (us : Tokens) → unescape_all (segments (c ∷ s)) ≡ ok us → Spelled false (c ∷ s) us
  token-tilde e us h =
      let g = ih.after_tilde_lem us (sym (ap unescape_all (segments_more c s (λ f. omega arith) ∙ ap (λ d. prepend d (segments s)) e)) ∙ h) in
      rw e (spelled_as g.is (escape g.spells))

  token_plain : (c ≡ code "/" → ⊥) → (c ≡ code "~" → ⊥) → (us : Tokens) → unescape_all (segments (c ∷ s)) ≡ ok us → Spelled false (c ∷ s) us
  unfolding prepend
  token_plain f g us h =
      let k = segmented s in
      let (u, rest, a, b, is) = all_parts (c ∷ k.first) k.rest us (sym (ap unescape_all (segments_more c s f ∙ ap (prepend c) k.is)) ∙ h) in
      let (v, p, q) = plain_part c k.first u g a in
      let whole : unescape_all (segments s) ≡ ok (v ∷ rest) = ap unescape_all k.is ∙ joined k.first k.rest v rest p b in
      spelled_as (is ∙ ap (λ u. u ∷ rest) q) (plain f g (spelled_of (ih.in_token (v ∷ rest) whole)))

  tilde_slash : c ≡ code "/" → (us : Tokens) → unescape_all (prepend (code "~") (segments (c ∷ s))) ≡ ok us → ⊥
  unfolding prepend unescape
  tilde_slash e us h =
      let (u, rest, a, b, is) = all_parts (code "~" ∷ []) (segments s) us (sym (ap (λ ts. unescape_all (prepend (code "~") ts)) (segments_slash c s e)) ∙ h) in
      refused≢ok a

  tilde_more : (c ≡ code "/" → ⊥) → (us : Tokens) → unescape_all (prepend (code "~") (segments (c ∷ s))) ≡ ok us → Spelled true (c ∷ s) us
  unfolding prepend unescape
  tilde_more f us h =
      let k = segmented s in
      let (u, rest, a, b, is) = all_parts (code "~" ∷ c ∷ k.first) k.rest us
      (sym (ap (λ ts. unescape_all (prepend (code "~") ts)) (segments_more c s f ∙ ap (prepend c) k.is)) ∙ h) in
      let (d, v, x, p, q) = escape-part c k.first u a in
      let whole : unescape_all (segments s) ≡ ok (v ∷ rest) = ap unescape_all k.is ∙ joined k.first k.rest v rest p b in
      spelled_as (is ∙ ap (λ u. u ∷ rest) q) (go x (spelled_of (ih.in_token (v ∷ rest) whole)))
    where
      go : {c d : ℕ} {v : Text} {rest : Tokens} → Escape c d → Spells false s v rest → Spells true (c ∷ s) (d ∷ v) rest
      go zero p = Spells.zero p
      go one p = Spells.one p

both_none : Both []
unfolding segments prepend unescape_all unescape ◌>>=◌
both_none =
    record {
      in_token = λ us h. let is : us ≡ [] ∷ [] = cc in spelled_as is ends;
      after_tilde_lem = λ us h. absurd (refused≢ok h);
    }

both : (s : Text) → Both s
both [] = both_none
both (c ∷ s) = go (both s) (ℕ_discrete c (code "/")) (ℕ_discrete c (code "~"))
  where
    go : Both s → Dec (c ≡ code "/") → Dec (c ≡ code "~") → Both (c ∷ s)
    go ih (yes e) d = record { in_token = token_slash c s ih e; after_tilde_lem = λ us h. absurd (tilde_slash c s ih e us h) }
    go ih (no e) (yes f) = record { in_token = token-tilde c s ih f; after_tilde_lem = tilde_more c s ih e }
    go ih (no e) (no f) = record { in_token = token_plain c s ih e f; after_tilde_lem = tilde_more c s ih e }

-- ---- two pointers

behind_slash : (c : ℕ) (s : Text) (ts : Tokens) → tokens (c ∷ s) ≡ ok ts → (c ≡ code "/") × Spelled false s ts
unfolding tokens
behind_slash c s ts h = go (ℕ_discrete c (code "/"))
  where
    go : Dec (c ≡ code "/") → (c ≡ code "/") × Spelled false s ts
    go (yes e) = (e, (both s).in_token ts (rw (eq-eqb c (code "/") e) at h))
    go (no e) = absurd (refused≢ok (rw (ne_eqb c (code "/") e) at h))

nothing_shorter : (ts : Tokens) → proper_prefix ts [] ≡ false
unfolding proper_prefix
nothing_shorter [] = refl
nothing_shorter (t ∷ ts) = refl

pub begins-tokens : (r s : Text) (ts us : Tokens) → tokens r ≡ ok ts → tokens s ≡ ok us → begins r s ≡ proper_prefix ts us
unfolding begins tokens proper_prefix
begins-tokens [] [] ts us h k =
    let none_so : us ≡ [] = cc in
    sym (ap (proper_prefix ts) none_so ∙ nothing_shorter ts)
begins-tokens [] (d ∷ s) ts us h k =
    let none_so : ts ≡ [] = cc in
    let (e, g) = behind_slash d s us k in
    eq-eqb d (code "/") e ∙ sym (ap₂ proper_prefix none_so g.is)
begins-tokens (c ∷ r) [] ts us h k =
    let none_so : us ≡ [] = cc in
    sym (ap (proper_prefix ts) none_so ∙ nothing_shorter ts)
begins-tokens (c ∷ r) (d ∷ s) ts us h k =
    let (e, p) = behind_slash c r ts h in
    let (f, q) = behind_slash d s us k in
    ap (λ b. b && begins r s) (eq-eqb c d (e ∙ sym f)) ∙ same_spelling p.spells q.spells ∙ sym (ap₂ proper_prefix p.is q.is)
