use mathlib.Core.Path.{◌≡◌, sym, refl, ◌∙◌}
use mathlib.Core.List.{[]}
use Prim.Native.Nat.{ℕ}
use Rattle.std.specs.Prelude.{Result, Ok, Err, is_err}
use Rattle.spec.specs.Bytes.{Bytes}
use Rattle.spec.specs.Value.{same_text}
use Rattle.spec.specs.declared.refusal.Fault.{Fault}
use Rattle.lexer.specs.declared.characters.Character.{Character}
use Rattle.lexer.specs.Answers.{character_outcome}
use Rattle.text.specs.Decode.{text_from}
use Rattle.text.specs.Letters.{letter_at}
use Rattle.text.proofs.LetterLaws.{scalar_text, refused_text}
use Rattle.text.proofs.CompareLaws.{shorter, both_end}
use Rattle.text.proofs.compare.ended.Goals as goal

-- a text has ended where there is no letter
no_letter : (form : ℕ) (s : Bytes) (at : ℕ) (r : Result Character Fault) → character_outcome r ≡ letter_at form s at →
    is_err r ≡ same_text [] (text_from form s at)
no_letter form s at (Ok c) e = sym (shorter refl (scalar_text form s at e c refl))
no_letter form s at (Err x) e = sym (both_end refl (refused_text form s at e x refl))

pub returns : goal.returns
returns c = c.is_err.ensures.value ∙ no_letter _ _ _ _ c.letter.ensures
