-- The examples of RFC 6901, section 6, computed.
use mathlib.Core.Path.{refl}
use Rattle.spec.specs.Outcome.{◌>>=◌}
use Rattle.spec.specs.Bytes.{ascii, byte, within}
use Rattle.spec.specs.Numbers.{is_digit}
use Rattle.spec.specs.Strings.{hex_value, multibyte}
use Rattle.spec.specs.Pointer.{prepend, segments, tilde, unescape, unescape_all, tokens}
use Rattle.pointer.specs.Tokens.{accepted}
use Rattle.fragment.specs.Kept.{one_of, is_alpha, is_unreserved, is_sub_delim, is_pchar, is_kept}
use Rattle.text.specs.UpperHex.{upper_hex}
use Rattle.fragment.specs.Link.{encoded, encode_all, link, is_hex, precede, octets, octets_of, character_at, characters_from, characters, is_utf8}
use Rattle.fragment.specs.Link.{is_pointer}
use Rattle.fragment.specs.Answer.{fitting, write_answer, octets_answer, read_answer}
use Rattle.fragment.specs.Examples.{section6, Every, none, more}

-- all that is unfolded to compute an answer
unfoldable computes : Unit {0}
unfolding ◌>>=◌ ascii byte within is_digit hex_value multibyte prepend segments tilde unescape unescape_all tokens accepted one_of is_alpha is_unreserved
    is_sub_delim is_pchar is_kept upper_hex encoded encode_all link is_hex precede octets octets_of character_at characters_from characters is_utf8 is_pointer
    fitting write_answer octets_answer read_answer
computes = tt

pub section_6 : Every section6
unfolding computes section6
section_6 =
    more (record { written = refl; read = refl })
    (more (record { written = refl; read = refl })
    (more (record { written = refl; read = refl })
    (more (record { written = refl; read = refl })
    (more (record { written = refl; read = refl })
    (more (record { written = refl; read = refl })
    (more (record { written = refl; read = refl })
    (more (record { written = refl; read = refl })
    (more (record { written = refl; read = refl })
    (more (record { written = refl; read = refl })
    (more (record { written = refl; read = refl })
    (more (record { written = refl; read = refl }) none)))))))))))
