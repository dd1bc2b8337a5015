-- Worked examples, by computation.
use mathlib.Core.Path.{◌≡◌, refl}
use mathlib.Core.List.{[], ◌∷◌}
use Rattle.spec.specs.Outcome.{◌>>=◌}
use Rattle.spec.specs.Bytes.{ascii, byte, within, byte_in}
use Rattle.spec.specs.Strings.{hex_value, hex_in, low_surrogate, after_high, second_limit, unicode_escape, short_escape, escape, tail, multibyte, character}
use Rattle.spec.specs.Write.{utf8, hex_digit, write_character, write_characters}
use Rattle.text.specs.Decode.{character_in, before, decode_loop, decode_from, unescape_token, text_from, text_of}
use Rattle.text.specs.Written.{written}

-- all that computes them
unfoldable compute_bytes : Unit {0}
unfolding ascii byte within byte_in ◌>>=◌ text_of text_from decode_from decode_loop before character_in
compute_bytes = tt

unfoldable compute_text : Unit {0}
unfolding compute_bytes character escape unicode_escape short_escape second_limit hex_in hex_value after_high low_surrogate multibyte tail unescape_token
compute_text = tt

-- `~01` means `~1`, and not `/`; a token's JSON escapes are read before its tildes
pub tokens : (text_of 3 (ascii "~01") ≡ ascii "~1") × (text_of 3 (ascii "a~1b") ≡ ascii "a/b") × (text_of 3 (ascii "\\u007e1") ≡ ascii "/")
unfolding compute_text
tokens = (refl, refl, refl)

-- a pair of surrogates is one character, and an escape says what the raw bytes say
pub strings : (text_of 2 (ascii "\\ud83d\\ude00") ≡ 0x1F600 ∷ []) × (text_of 2 (ascii "\\u00e9") ≡ text_of 1 (0xC3 ∷ 0xA9 ∷ []))
unfolding compute_text
strings = (refl, refl)

-- an escape is written only where there must be one
pub writings :
    (written 2 (ascii "\\u001F\\u000A\\u0022\\/") ≡ ascii "\\u001f\\n\\\"/") ×
    (written 2 (ascii "\\u00e9") ≡ 0xC3 ∷ 0xA9 ∷ [])
unfolding compute_text written write_characters write_character utf8 hex_digit
writings = (refl, refl)
