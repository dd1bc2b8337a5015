-- RFC 6901, section 6: its twelve fragment identifiers, each beside the pointer of section 5 that it stands for.
use Rattle.std.specs.Prelude.{◌≡◌, List, [], ◌∷◌}
use Rattle.spec.specs.Bytes.{Bytes, ascii}
use Rattle.fragment.specs.Answer.{write_answer, read_answer, success}

pub record Example : Type 0 where
  pub link : Bytes
  pub pointer : Bytes

abbrev pub names : Bytes → Bytes → Example
names l p = record { link = l; pointer = p }

unfoldable pub section6 : List Example
section6 =
    names (ascii "#") (ascii "")
    ∷ names (ascii "#/foo") (ascii "/foo")
    ∷ names (ascii "#/foo/0") (ascii "/foo/0")
    ∷ names (ascii "#/") (ascii "/")
    ∷ names (ascii "#/a~1b") (ascii "/a~1b")
    ∷ names (ascii "#/c%25d") (ascii "/c%d")
    ∷ names (ascii "#/e%5Ef") (ascii "/e^f")
    ∷ names (ascii "#/g%7Ch") (ascii "/g|h")
    ∷ names (ascii "#/i%5Cj") (ascii "/i\\j")
    ∷ names (ascii "#/k%22l") (ascii "/k\"l")
    ∷ names (ascii "#/%20") (ascii "/ ")
    ∷ names (ascii "#/m~0n") (ascii "/m~0n")
    ∷ []

-- the pointer is written as the link, and the link is read as the pointer, in an output of 64 bytes
pub record Holds (e : Example) : Type 0 where
  pub written : write_answer e.pointer 64 ≡ success e.link
  pub read : read_answer e.link 64 ≡ success e.pointer

pub data Every : List Example → Type 0 where
  none : Every []
  more : {e : Example} {es : List Example} → Holds e → Every es → Every (e ∷ es)
