-- Laws of answers.
use Rattle.std.specs.Prelude.{Ok, Err}
use Rattle.std.proofs.Common.{◌≡◌, ℕ, ◌<◌, ◌≤◌, length, sym, refl, ◌∙◌, subst, zero-add, arith, le-leb}
use borrow.Author.Tests.{lt-leb}
use Rattle.spec.specs.Outcome.{Outcome, ok, refused}
use Rattle.spec.specs.Refusal.{input_too_long, output_too_short}
use Rattle.spec.specs.Bytes.{Bytes}
use Rattle.text.specs.Written.{LaidDown}
use Rattle.text.proofs.StoreLaws.{laid_down}
use Rattle.intel_hex.specs.Record.{max_text, hex_of}
use Rattle.intel_hex.specs.Reading.{read_text}
use Rattle.intel_hex.specs.Answer as Spec
use Rattle.intel_hex.specs.Answer.{fitting, write_answer, outcome_answer, read_answer}
use Rattle.intel_hex.specs.Steps.{sized, Accepted, text_of}
use Rattle.intel_hex.specs.Call.{Answered, answer_of}
use Rattle.intel_hex.specs.Refusal.{number_of, outcome}
use Rattle.intel_hex.specs.declared.refusal.HexFault.{HexFault}

-- ---- a refusal leaves the output as it was; a success has the text in front

pub refuses : {a : Spec.Answer} {out : Bytes} (e : HexFault) → a ≡ Spec.refusal (number_of e.refusal) e.line → Answered a out out (answer_of (Err e))
refuses {a} {out} e h =
    subst (λ a. Answered a out out (answer_of (Err e))) (sym h) (record { number = refl; place = refl; written = refl; output = refl })

module _ (room : ℕ) (t : Bytes) where
  pub fitting_short : room < length t → fitting room t ≡ Spec.refusal output_too_short 0
  unfolding fitting
  fitting_short h = rw (lt-leb (length t) room h)

  pub fitting_whole : length t ≤ room → fitting room t ≡ Spec.success t
  unfolding fitting
  fitting_whole h = rw (le-leb (length t) room h)

pub succeeds : {a : Spec.Answer} {t before after : Bytes} {n : ℕ} → a ≡ fitting (length before) t → length t ≤ length before →
    LaidDown t before after n → Answered a before after (answer_of (Ok n))
succeeds {t = t} {before} {after} {n} e h d =
    subst (λ a. Answered a before after (answer_of (Ok n))) (sym (e ∙ fitting_whole (length before) t h))
    (record { number = refl; place = refl; written = d.count_is; output = d.after_is ∙ laid_down t before h })

-- ---- writing

module _ (text : Bytes) (room : ℕ) where
  pub write_long : max_text < length text → write_answer text room ≡ Spec.refusal input_too_long 0
  unfolding write_answer
  write_long h = rw (lt-leb (length text) max_text h)

  pub write_fits : length text ≤ max_text → write_answer text room ≡ fitting room (hex_of text)
  unfolding write_answer
  write_fits h = rw (le-leb (length text) max_text h)

-- ---- reading, by what was measured

pub record Sized (s : Bytes) (room n : ℕ) : Type 0 where
  pub accepted : Accepted s
  pub length_is : n ≡ length (text_of (read_text s))
  pub answer_is : read_answer s room ≡ fitting room (text_of (read_text s))

pub read_sized : (s : Bytes) (room : ℕ) {n : ℕ} → outcome (Ok n) ≡ sized 0 (read_text s) → Sized s room n
unfolding outcome sized text_of read_answer outcome_answer
read_sized s room {n} h = go (read_text s) refl h
  where
    go : (o : Outcome Bytes) → read_text s ≡ o → ok n ≡ sized 0 o → Sized s room n
    go (ok t) e h = record { accepted = record { text = t; is = e }; length_is = rw e (cc (zero-add (length t))); answer_is = rw e }
    go (refused number line) e h = let z : ◌≡◌ {A = ℕ} 0 1 = cc in absurd (omega arith)

pub read_refused : (s : Bytes) (room : ℕ) (e : HexFault) → outcome (Err e) ≡ sized 0 (read_text s) →
    read_answer s room ≡ Spec.refusal (number_of e.refusal) e.line
unfolding outcome sized read_answer outcome_answer
read_refused s room e h = go (read_text s) refl h
  where
    go : (o : Outcome Bytes) → read_text s ≡ o → refused (number_of e.refusal) e.line ≡ sized 0 o →
        read_answer s room ≡ Spec.refusal (number_of e.refusal) e.line
    go (ok t) q h = cc
    go (refused number line) q h = rw q cc
