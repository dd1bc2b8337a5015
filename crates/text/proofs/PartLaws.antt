-- The part of a string that was read says the string's text, and is written as that text is; and so does a token's part.
use mathlib.Core.Path.{◌≡◌, sym, ap}
use mathlib.Core.Bool.{true, false}
use Prim.Native.Nat.{ℕ, ◌+◌, ◌-◌}
use Rattle.spec.specs.Outcome.{ok}
use Rattle.spec.specs.Bytes.{Bytes, Text}
use Rattle.spec.specs.Strings.{string}
use Rattle.spec.specs.Pointer.{unescape}
use Rattle.spec.specs.Write.{write_characters}
use Rattle.lexer.specs.Names.{part, no_backslash}
use Rattle.text.specs.Decode.{decode, text_from, text_of}
use Rattle.text.specs.Written.{written}
use Rattle.text.proofs.DecodeLaws.{decode-string}
use Rattle.text.proofs.TokenLaws.{unescape_token_lem}
use Rattle.text.proofs.PlainLaws.{string-same}

module _ (s : Bytes) (at : ℕ) (cs : Text) (next : ℕ) (read : string s at ≡ ok (cs, next)) where
  pub plain_text : text_of 1 (part s (at + 1) (next - 1)) ≡ cs
  unfolding text_of text_from decode
  plain_text = decode-string s at cs next read

  pub string-text : text_of 2 (part s (at + 1) (next - 1)) ≡ cs
  unfolding text_of text_from decode
  string-text = decode-string s at cs next read

  pub plain_written : no_backslash (part s (at + 1) (next - 1)) ≡ true → written 1 (part s (at + 1) (next - 1)) ≡ write_characters cs
  unfolding written
  plain_written plain = sym (string-same s at cs next read plain)

  pub string-written : written 2 (part s (at + 1) (next - 1)) ≡ write_characters cs
  unfolding written
  string-written = ap write_characters string-text

module _ (p : Bytes) (u : Text) (accepted : unescape false (decode p) ≡ ok u) where
  pub token_text : text_of 3 p ≡ u
  unfolding text_of text_from decode
  token_text = unescape_token_lem (decode p) u accepted

  pub token-written : written 3 p ≡ write_characters u
  unfolding written
  token-written = ap write_characters token_text
