-- Both contracts are equations with one definition, in which the work area decides only whether it suffices.
use Prim.Native.Nat.{ℕ}
use mathlib.Core.Path.{◌≡◌, refl, sym, ap, ◌∙◌}
use mathlib.Core.Bool.{Bool, true, false}
use lib.ListN.{length}
use Rattle.spec.specs.Refusal.{work_too_short}
use Rattle.spec.specs.Bytes.{Bytes}
use Rattle.spec.specs.Answer as Spec
use Rattle.spec.specs.Answer.{answer, answer_in, work_suffices}
use Rattle.tape.specs.Lent.{Texts}
use Rattle.json_patch.specs.Call.{Memory, lent_of, Answered}
use Rattle.json_patch.specs.Columns.{ColumnMemory, columns_suffice, column_answer, SameCalls, ColumnsStatement}
use Rattle.json_patch.specs.declared.answer.Answer.{Answer}

-- where 1 is not given, the work area suffices
enough : (b : Bool) (room : ℕ) (D P : Bytes) → ((answer_in b room D P).number ≡ work_too_short → ⊥) → b ≡ true
unfolding answer_in
enough true room D P h = refl
enough false room D P h = absurd (h refl)

same_answer : (T : Texts) (m : Memory) (c : ColumnMemory) → m.output ≡ c.output → ((answer T.document T.patch (lent_of m)).number ≡ work_too_short → ⊥)
    → ((column_answer T c).number ≡ work_too_short → ⊥) → answer T.document T.patch (lent_of m) ≡ column_answer T c
unfolding answer column_answer
same_answer T m c e h i =
    let a = enough (work_suffices (lent_of m)) (length m.output) T.document T.patch h in
    let b = enough (columns_suffice c) (length c.output) T.document T.patch i in
    rw (a, b, e)

same_calls : {a b : Spec.Answer} {out out' left left' : Bytes} {r q : Answer} → a ≡ b → out ≡ out' → Answered a out left r → Answered b out' left' q
    → SameCalls r q left left'
same_calls e f x y =
    record {
      answers =
          record {
            number = x.number ∙ ap (λ a. a.number) e ∙ sym y.number;
            text = x.text ∙ ap (λ a. a.text) e ∙ sym y.text;
            op = x.op ∙ ap (λ a. a.op) e ∙ sym y.op;
            place = x.place ∙ ap (λ a. a.place) e ∙ sym y.place;
            pointer = x.pointer ∙ ap (λ a. a.pointer) e ∙ sym y.pointer;
            written = x.written ∙ ap (λ a. length a.written) e ∙ sym y.written;
          };
      outputs = x.output ∙ rw (e, f) (sym y.output);
    }

pub columns : ColumnsStatement
columns T m m' c c' r q same is was h i =
    let equal = same_answer T m c same (λ n. h (is.answered.number ∙ n)) (λ n. i (was.answered.number ∙ n)) in
    same_calls equal same is.answered was.answered
