-- What is added or replaced is found there afterwards, and what a change does not touch is as it was: specs/Effects.
use mathlib.Core.Path.{◌≡◌, refl, ap, sym, subst, ◌∙◌}
use mathlib.Core.Bool.{true≢false}
use mathlib.Core.List.{[], ◌∷◌}
use Prim.Native.Nat.{ℕ}
use Prim.Native.Char.{code}
use native.Mathlib.Omega.{arith}
use Rattle.spec.specs.Bytes.{Text, ascii}
use Rattle.spec.specs.Forest.{◌⧺◌}
use Rattle.spec.specs.Value as Value
use Rattle.spec.specs.Value.{Label, Members, tag, same_text, value_of}
use Rattle.spec.specs.Pointer.{Tokens, is_dash, child, farther, walk}
use Rattle.spec.specs.Effects as Effects
use Rattle.spec.specs.Effects.{ArrayIndex, holding, node, Child, Evaluates, step, Below, there, deeper, Adds, Added, Replaces, replaced, FoundAt, Parts}
use Rattle.spec.proofs.PlaceLaws.{walk_on, walk-beside}
use Rattle.spec.proofs.EffectsLaws.{is_index_lem, child_is, child-put, child_at_lem}
use Rattle.spec.proofs.EffectsDone.{ok_same}

array-not-object : {l : Label} {A : Type 0} → l ≡ Label.array → l ≡ Label.object → A
unfolding tag
array-not-object a b = absurd (omega (arith, ap tag (sym a ∙ b)))

dash_no_index : {k : ℕ} {A : Type 0} → ArrayIndex (code "-" ∷ []) k → A
unfolding is_dash same_text ascii
dash_no_index i = absurd (true≢false (is_index_lem i).2)

-- a child with another value in its place
child_again : {t name : Text} {v x : Value.Value} {b a : Members} (y : Value.Value) → Child t v name x b a → Child t (holding v (b ⧺ node name y a)) name y b a
child_again y (Effects.member l is w) = Effects.member l refl w
child_again y (Effects.element l is i) = Effects.element l refl i

-- a token names one child
one-child : {t n n' : Text} {v x x' : Value.Value} {b b' a a' : Members} → Child t v n x b a → Child t v n' x' b' a' → x ≡ x'
one-child {v = v} c d =
    let same = ok_same (sym (child_at_lem c) ∙ child_at_lem d) in
    ap value_of (sym (child_is c) ∙ ap (λ k. child k v) same ∙ child_is d)

adds_found : {x : Value.Value} {t : Text} {us : Tokens} {v w : Value.Value} → Adds x t v w → FoundAt (t ∷ []) v us → Evaluates us w x
adds_found (Effects.new-member l without) (Effects.member l') = step (Effects.member l refl without) Effects.root
adds_found (Effects.new-member l without) (Effects.index k l' i) = array-not-object l' l
adds_found (Effects.new-member l without) (Effects.end l' i) = array-not-object l' l
adds_found {x} (Effects.existing-member l c) (Effects.member l') = step (child_again x c) Effects.root
adds_found {x} (Effects.existing-member l c) (Effects.index k l' i) = array-not-object l' l
adds_found {x} (Effects.existing-member l c) (Effects.end l' i) = array-not-object l' l
adds_found (Effects.element b a l is i) (Effects.member l') = array-not-object l l'
adds_found (Effects.element b a l is i) (Effects.index k l' j) = step (Effects.element l refl i) Effects.root
adds_found (Effects.element b a l is i) (Effects.end l' j) = dash_no_index i
adds_found (Effects.appended l) (Effects.member l') = array-not-object l l'
adds_found (Effects.appended l) (Effects.index k l' i) = dash_no_index i
adds_found (Effects.appended l) (Effects.end l' i) = step (Effects.element l refl i) Effects.root

below_found : {x : Value.Value} {ts us : Tokens} {v w : Value.Value} → Below (Adds x) ts v w → FoundAt ts v us → Evaluates us w x
below_found (there a) f = adds_found a f
below_found (deeper {u = u} {ts = ts} {y = y} c b) (Effects.below {us = us} d f) =
    step (child_again y c) (below_found b (subst (λ x. FoundAt (u ∷ ts) x us) (sym (one-child c d)) f))

pub added_found : (x : Value.Value) (ts us : Tokens) (v w : Value.Value) → Added x ts v w → FoundAt ts v us → Evaluates us w x
added_found x ts us v w Effects.root Effects.root = Effects.root
added_found x ts us v w (Effects.below b) f = below_found b f

replaced_below : {x : Value.Value} {ts : Tokens} {v w : Value.Value} → Below (Replaces x) ts v w → Evaluates ts w x
replaced_below {x} (there (replaced c)) = step (child_again x c) Effects.root
replaced_below (deeper {y = y} c b) = step (child_again y c) (replaced_below b)

pub replaced-found : (x : Value.Value) (ts : Tokens) (v w : Value.Value) → Below (Replaces x) ts v w → Evaluates ts w x
replaced-found x ts v w b = replaced_below b

-- one step of a walk
step_in : {t name : Text} {v x : Value.Value} {b a : Members} (us : Tokens) → Child t v name x b a → walk (t ∷ us) v ≡ farther (walk us x)
step_in {t} {v = v} us c = walk_on t us v _ (child_at_lem c) ∙ ap (λ x. farther (walk us x)) (ap value_of (child_is c))

-- what a pointer leads to that parts from the path of a change
pub untouched : (Change : Text → Value.Value → Value.Value → Type 0) (ts us : Tokens) (v w : Value.Value) → Below Change ts v w → Parts ts us →
    walk us w ≡ walk us v
untouched Change _ us v w (there b) p = elim p [ ]
untouched Change ts us v w (deeper {y = y} c b) (Effects.here {t} {u = u} {us = us'} n) =
    ap (walk (u ∷ us')) (sym (child-put c y)) ∙ walk-beside t u us' y v _ (child_at_lem c) n
untouched Change ts us v w (deeper {x = x} {y = y} c b) (Effects.later {us = us'} p) =
    step_in us' (child_again y c) ∙ ap farther (untouched Change _ us' x y b p) ∙ sym (step_in us' c)
