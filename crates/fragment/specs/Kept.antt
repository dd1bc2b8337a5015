-- The bytes that stand in a URI's fragment as they are: RFC 3986, by its productions. T-14: "keeps ASCII letters, digits and
-- `-._~!$&'()*+,;=:@/?`", which is the same set (Claims).
use Rattle.std.specs.Prelude.{ℕ, [], ◌∷◌, Bool, false, ◌||◌, eqb}
use Prim.Native.Char.{code}
use Rattle.spec.specs.Bytes.{Text, ascii, within}
use Rattle.spec.specs.Numbers.{is_digit}

unfoldable pub one_of : Text → ℕ → Bool
one_of [] b = false
one_of (c ∷ cs) b = eqb b c || one_of cs b

-- section 1.3, and RFC 5234, appendix B.1: ALPHA
unfoldable pub is_alpha : ℕ → Bool
is_alpha b = within (code "A") (code "Z") b || within (code "a") (code "z") b

-- section 2.3: unreserved = ALPHA / DIGIT / "-" / "." / "_" / "~"
unfoldable pub is_unreserved : ℕ → Bool
is_unreserved b = is_alpha b || (is_digit b || one_of (ascii "-._~") b)

-- section 2.2: sub-delims
unfoldable pub is_sub_delim : ℕ → Bool
is_sub_delim b = one_of (ascii "!$&'()*+,;=") b

-- section 3.3: pchar = unreserved / pct-encoded / sub-delims / ":" / "@"; here without pct-encoded
unfoldable pub is_pchar : ℕ → Bool
is_pchar b = is_unreserved b || (is_sub_delim b || one_of (ascii ":@") b)

-- section 3.5: fragment = *( pchar / "/" / "?" )
unfoldable pub is_kept : ℕ → Bool
is_kept b = is_pchar b || one_of (ascii "/?") b
