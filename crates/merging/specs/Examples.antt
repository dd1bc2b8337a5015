-- RFC 7396, appendix A, "Example Test Cases": all fifteen, in its order; and two of positions.
use Rattle.std.specs.Prelude.{◌≡◌, List, [], ◌∷◌}
use Prim.Native.String.{String}
use Rattle.spec.specs.Bytes.{ascii}
use Rattle.spec.specs.Answer.{success}
use Rattle.spec.specs.Examples.{lent}
use Rattle.merging.specs.MergePatch.{merge_answer}

-- "ORIGINAL PATCH RESULT"
pub record Case : Type 0 where
  pub original : String
  pub patch : String
  pub result : String

abbrev pub case : String → String → String → Case
case original patch result = record { original = original; patch = patch; result = result }

abbrev pub All : List Case → Type 0
All [] = Unit {0}
All (c ∷ cs) = (merge_answer (ascii c.original) (ascii c.patch) lent ≡ success (ascii c.result)) × All cs

abbrev pub appendix : List Case
appendix =
    case "{\"a\":\"b\"}" "{\"a\":\"c\"}" "{\"a\":\"c\"}" ∷
    case "{\"a\":\"b\"}" "{\"b\":\"c\"}" "{\"a\":\"b\",\"b\":\"c\"}" ∷
    case "{\"a\":\"b\"}" "{\"a\":null}" "{}" ∷
    case "{\"a\":\"b\",\"b\":\"c\"}" "{\"a\":null}" "{\"b\":\"c\"}" ∷
    case "{\"a\":[\"b\"]}" "{\"a\":\"c\"}" "{\"a\":\"c\"}" ∷
    case "{\"a\":\"c\"}" "{\"a\":[\"b\"]}" "{\"a\":[\"b\"]}" ∷
    case "{\"a\":{\"b\":\"c\"}}" "{\"a\":{\"b\":\"d\",\"c\":null}}" "{\"a\":{\"b\":\"d\"}}" ∷
    case "{\"a\":[{\"b\":\"c\"}]}" "{\"a\":[1]}" "{\"a\":[1]}" ∷
    case "[\"a\",\"b\"]" "[\"c\",\"d\"]" "[\"c\",\"d\"]" ∷
    case "{\"a\":\"b\"}" "[\"c\"]" "[\"c\"]" ∷
    case "{\"a\":\"foo\"}" "null" "null" ∷
    case "{\"a\":\"foo\"}" "\"bar\"" "\"bar\"" ∷
    case "{\"e\":null}" "{\"a\":1}" "{\"e\":null,\"a\":1}" ∷
    case "[1,2]" "{\"a\":\"b\",\"c\":null}" "{\"a\":\"b\"}" ∷
    case "{}" "{\"a\":{\"bb\":{\"ccc\":null}}}" "{\"a\":{\"bb\":{}}}" ∷
    []

-- T-02: "Existing members keep their position, new ones go last": in the patch's order; nulls in arrays stay
abbrev pub positions : List Case
positions =
    case "{\"a\":1,\"b\":2,\"c\":3}" "{\"c\":4,\"y\":5,\"a\":6,\"x\":7}" "{\"a\":6,\"b\":2,\"c\":4,\"y\":5,\"x\":7}" ∷
    case "{\"a\":{\"b\":1}}" "{\"a\":[null,{\"b\":null}]}" "{\"a\":[null,{\"b\":null}]}" ∷
    []
