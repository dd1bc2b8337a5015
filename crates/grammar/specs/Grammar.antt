-- The grammar of JSON text: RFC 8259 production by production, under its own names, over bytes in UTF-8 by RFC 3629, section 4.
-- `p w` says that the production p derives the bytes w; `p w a`, that it does and that they mean a.
use Rattle.std.specs.Prelude.{ℕ, ◌+◌, ◌-◌, ◌*◌, ◌≤◌, ◌<◌, [], ◌∷◌, ◌++◌}
use Prim.Native.Char.{code}
use Rattle.spec.specs.Bytes.{Bytes, Text, ascii}
use Rattle.spec.specs.Forest as Forest
use Rattle.spec.specs.Value as Value
use Rattle.spec.specs.Value.{Label, Members, leaf, named}

-- RFC 5234, section 3.4: %xLOW-HIGH, a byte or a code point in a range
abbrev pub %x : ℕ → ℕ → ℕ → Type 0
%x low high n = (low ≤ n) × (n ≤ high)

-- RFC 5234, section 3.8: [ RULE ]
pub data optional (rule : Bytes → Type 0) : Bytes → Type 0 where
  absent : optional rule []
  present : {w : Bytes} → rule w → optional rule w

-- RFC 8259, section 2: structural characters

-- ws = *( %x20 / %x09 / %x0A / %x0D )
pub data ws : Bytes → Type 0 where
  none : ws []
  space : {w : Bytes} → ws w → ws (0x20 ∷ w)
  tab : {w : Bytes} → ws w → ws (0x09 ∷ w)
  line_feed : {w : Bytes} → ws w → ws (0x0A ∷ w)
  carriage_return : {w : Bytes} → ws w → ws (0x0D ∷ w)

-- ws CHARACTER ws
pub data structural (character : ℕ) : Bytes → Type 0 where
  around : {before after : Bytes} → ws before → ws after → structural character (before ++ (character ∷ after))

-- begin-array = ws %x5B ws
abbrev pub begin_array : Bytes → Type 0
begin_array = structural (code "[")

-- begin-object = ws %x7B ws
abbrev pub begin_object : Bytes → Type 0
begin_object = structural (code "{")

-- end-array = ws %x5D ws
abbrev pub end_array : Bytes → Type 0
end_array = structural (code "]")

-- end-object = ws %x7D ws
abbrev pub end_object : Bytes → Type 0
end_object = structural (code "}")

-- name-separator = ws %x3A ws
abbrev pub name_separator : Bytes → Type 0
name_separator = structural (code ":")

-- value-separator = ws %x2C ws
abbrev pub value_separator : Bytes → Type 0
value_separator = structural (code ",")

-- Section 6: numbers

-- DIGIT = %x30-39
abbrev pub DIGIT : ℕ → Type 0
DIGIT = %x 0x30 0x39

-- digit1-9 = %x31-39
abbrev pub digit1-9 : ℕ → Type 0
digit1-9 = %x 0x31 0x39

pub data *DIGIT : Bytes → Type 0 where
  none : *DIGIT []
  more : {d : ℕ} {w : Bytes} → DIGIT d → *DIGIT w → *DIGIT (d ∷ w)

pub data 1*DIGIT : Bytes → Type 0 where
  some : {d : ℕ} {w : Bytes} → DIGIT d → *DIGIT w → 1*DIGIT (d ∷ w)

-- minus = %x2D
pub data minus : Bytes → Type 0 where
  minus-sign : minus (0x2D ∷ [])

-- int = zero / ( digit1-9 *DIGIT )
pub data int : Bytes → Type 0 where
  zero : int (0x30 ∷ [])
  nonzero : {d : ℕ} {w : Bytes} → digit1-9 d → *DIGIT w → int (d ∷ w)

-- frac = decimal-point 1*DIGIT
pub data frac : Bytes → Type 0 where
  decimal_point : {w : Bytes} → 1*DIGIT w → frac (0x2E ∷ w)

-- e = %x65 / %x45
pub data e : ℕ → Type 0 where
  lower_case : e 0x65
  upper_case : e 0x45

-- minus / plus
pub data sign : Bytes → Type 0 where
  minus-sign : sign (0x2D ∷ [])
  plus-sign : sign (0x2B ∷ [])

-- exp = e [ minus / plus ] 1*DIGIT
pub data exp : Bytes → Type 0 where
  exponent : {b : ℕ} {s w : Bytes} → e b → optional sign s → 1*DIGIT w → exp (b ∷ (s ++ w))

-- number = [ minus ] int [ frac ] [ exp ]
pub data number : Bytes → Type 0 where
  parts : {m i f x : Bytes} → optional minus m → int i → optional frac f → optional exp x → number (m ++ (i ++ (f ++ x)))

-- RFC 3629, section 4: a code point in UTF-8, with its value by the table of section 3

-- UTF8-tail = %x80-BF
abbrev pub UTF8-tail : ℕ → Type 0
UTF8-tail = %x 0x80 0xBF

-- UTF8-1 = %x00-7F
pub data UTF8-1 : Bytes → ℕ → Type 0 where
  one : {a : ℕ} → %x 0x00 0x7F a → UTF8-1 (a ∷ []) a

-- the bits of two, three and four bytes
abbrev pub two : ℕ → ℕ → ℕ
two a b = (a - 0xC0) * 0x40 + (b - 0x80)

abbrev pub three : ℕ → ℕ → ℕ → ℕ
three a b c = (a - 0xE0) * 0x1000 + (b - 0x80) * 0x40 + (c - 0x80)

abbrev pub four : ℕ → ℕ → ℕ → ℕ → ℕ
four a b c d = (a - 0xF0) * 0x4_0000 + (b - 0x80) * 0x1000 + (c - 0x80) * 0x40 + (d - 0x80)

-- UTF8-2 = %xC2-DF UTF8-tail
pub data UTF8-2 : Bytes → ℕ → Type 0 where
  C2-DF : {a b : ℕ} → %x 0xC2 0xDF a → UTF8-tail b → UTF8-2 (a ∷ b ∷ []) (two a b)

-- UTF8-3 = %xE0 %xA0-BF UTF8-tail / %xE1-EC 2( UTF8-tail ) / %xED %x80-9F UTF8-tail / %xEE-EF 2( UTF8-tail )
pub data UTF8-3 : Bytes → ℕ → Type 0 where
  E0 : {b c : ℕ} → %x 0xA0 0xBF b → UTF8-tail c → UTF8-3 (0xE0 ∷ b ∷ c ∷ []) (three 0xE0 b c)
  E1-EC : {a b c : ℕ} → %x 0xE1 0xEC a → UTF8-tail b → UTF8-tail c → UTF8-3 (a ∷ b ∷ c ∷ []) (three a b c)
  ED : {b c : ℕ} → %x 0x80 0x9F b → UTF8-tail c → UTF8-3 (0xED ∷ b ∷ c ∷ []) (three 0xED b c)
  EE-EF : {a b c : ℕ} → %x 0xEE 0xEF a → UTF8-tail b → UTF8-tail c → UTF8-3 (a ∷ b ∷ c ∷ []) (three a b c)

-- UTF8-4 = %xF0 %x90-BF 2( UTF8-tail ) / %xF1-F3 3( UTF8-tail ) / %xF4 %x80-8F 2( UTF8-tail )
pub data UTF8-4 : Bytes → ℕ → Type 0 where
  F0 : {b c d : ℕ} → %x 0x90 0xBF b → UTF8-tail c → UTF8-tail d → UTF8-4 (0xF0 ∷ b ∷ c ∷ d ∷ []) (four 0xF0 b c d)
  F1-F3 : {a b c d : ℕ} → %x 0xF1 0xF3 a → UTF8-tail b → UTF8-tail c → UTF8-tail d → UTF8-4 (a ∷ b ∷ c ∷ d ∷ []) (four a b c d)
  F4 : {b c d : ℕ} → %x 0x80 0x8F b → UTF8-tail c → UTF8-tail d → UTF8-4 (0xF4 ∷ b ∷ c ∷ d ∷ []) (four 0xF4 b c d)

-- UTF8-char = UTF8-1 / UTF8-2 / UTF8-3 / UTF8-4
pub data UTF8-char : Bytes → ℕ → Type 0 where
  of_1 : {w : Bytes} {c : ℕ} → UTF8-1 w c → UTF8-char w c
  of_2 : {w : Bytes} {c : ℕ} → UTF8-2 w c → UTF8-char w c
  of_3 : {w : Bytes} {c : ℕ} → UTF8-3 w c → UTF8-char w c
  of_4 : {w : Bytes} {c : ℕ} → UTF8-4 w c → UTF8-char w c

-- RFC 8259, section 7: strings

-- a digit and its value: "The hexadecimal letters A through F can be uppercase or lowercase."
pub data HEXDIG : ℕ → ℕ → Type 0 where
  digit : {b : ℕ} → %x 0x30 0x39 b → HEXDIG b (b - 0x30)
  upper_case : {b : ℕ} → %x 0x41 0x46 b → HEXDIG b (b - 0x41 + 10)
  lower_case : {b : ℕ} → %x 0x61 0x66 b → HEXDIG b (b - 0x61 + 10)

pub data 4HEXDIG : Bytes → ℕ → Type 0 where
  digits : {a b c d h i j k : ℕ} → HEXDIG a h → HEXDIG b i → HEXDIG c j → HEXDIG d k →
      4HEXDIG (a ∷ b ∷ c ∷ d ∷ []) (h * 0x1000 + i * 0x100 + j * 0x10 + k)

-- unescaped = %x20-21 / %x23-5B / %x5D-10FFFF
pub data unescaped : ℕ → Type 0 where
  20-21 : {c : ℕ} → %x 0x20 0x21 c → unescaped c
  23-5B : {c : ℕ} → %x 0x23 0x5B c → unescaped c
  5D-10FFFF : {c : ℕ} → %x 0x5D 0x10_FFFF c → unescaped c

-- escape = %x5C
abbrev pub escape : ℕ
escape = 0x5C

-- char = unescaped / escape ( %x22 / %x5C / %x2F / %x62 / %x66 / %x6E / %x72 / %x74 / %x75 4HEXDIG )
-- No surrogate is escaped alone: "To escape an extended character that is not in the Basic Multilingual Plane, the character is represented
-- as a 12-character sequence, encoding the UTF-16 surrogate pair."
pub data char : Bytes → ℕ → Type 0 where
  plain : {w : Bytes} {c : ℕ} → UTF8-char w c → unescaped c → char w c
  U+0022 : char (escape ∷ 0x22 ∷ []) 0x22
  U+005C : char (escape ∷ 0x5C ∷ []) 0x5C
  U+002F : char (escape ∷ 0x2F ∷ []) 0x2F
  U+0008 : char (escape ∷ 0x62 ∷ []) 0x08
  U+000C : char (escape ∷ 0x66 ∷ []) 0x0C
  U+000A : char (escape ∷ 0x6E ∷ []) 0x0A
  U+000D : char (escape ∷ 0x72 ∷ []) 0x0D
  U+0009 : char (escape ∷ 0x74 ∷ []) 0x09
  below_surrogates : {w : Bytes} {u : ℕ} → 4HEXDIG w u → u < 0xD800 → char (escape ∷ 0x75 ∷ w) u
  above_surrogates : {w : Bytes} {u : ℕ} → 4HEXDIG w u → 0xDFFF < u → char (escape ∷ 0x75 ∷ w) u
  surrogate_pair : {w w' : Bytes} {high low : ℕ} → 4HEXDIG w high → %x 0xD800 0xDBFF high → 4HEXDIG w' low → %x 0xDC00 0xDFFF low →
      char (escape ∷ 0x75 ∷ (w ++ (escape ∷ 0x75 ∷ w'))) (0x1_0000 + (high - 0xD800) * 0x400 + (low - 0xDC00))

pub data *char : Bytes → Text → Type 0 where
  none : *char [] []
  more : {w ws : Bytes} {c : ℕ} {cs : Text} → char w c → *char ws cs → *char (w ++ ws) (c ∷ cs)

-- quotation-mark = %x22
abbrev pub quotation_mark : ℕ
quotation_mark = 0x22

-- string = quotation-mark *char quotation-mark
pub data string : Bytes → Text → Type 0 where
  quoted : {w : Bytes} {cs : Text} → *char w cs → string (quotation_mark ∷ (w ++ (quotation_mark ∷ []))) cs

-- Sections 3 to 5: values, objects, arrays

-- a value under a name, and the values after it; an array's elements have the empty name
abbrev pub node : Text → Value.Value → Members → Members
node name v rest = Forest.tree (named name v).root v.kids rest

mutual
  -- value = false / null / true / object / array / number / string
  pub data value : Bytes → Value.Value → Type 0 where
    false_literal : value (ascii "false") (leaf Label.false_literal)
    null_literal : value (ascii "null") (leaf Label.null_literal)
    true_literal : value (ascii "true") (leaf Label.true_literal)
    of-object : {w : Bytes} {f : Members} → object w f → value w (record { label = Label.object; kids = f })
    of_array : {w : Bytes} {f : Members} → array w f → value w (record { label = Label.array; kids = f })
    of_number : {w : Bytes} → number w → value w (leaf (Label.number w))
    of-string : {w : Bytes} {cs : Text} → string w cs → value w (leaf (Label.string cs))

  -- object = begin-object [ member *( value-separator member ) ] end-object
  pub data object : Bytes → Members → Type 0 where
    no-members : {b e : Bytes} → begin_object b → end_object e → object (b ++ e) Forest.none
    with-members : {b w e : Bytes} {f : Members} → begin_object b → members w f → end_object e → object (b ++ (w ++ e)) f

  -- member *( value-separator member )
  pub data members : Bytes → Members → Type 0 where
    last-member : {w : Bytes} {name : Text} {v : Value.Value} → member w name v → members w (node name v Forest.none)
    more-members : {w c ws : Bytes} {name : Text} {v : Value.Value} {f : Members} → member w name v → value_separator c → members ws f →
        members (w ++ (c ++ ws)) (node name v f)

  -- member = string name-separator value
  pub data member : Bytes → Text → Value.Value → Type 0 where
    pair : {n c w : Bytes} {name : Text} {v : Value.Value} → string n name → name_separator c → value w v → member (n ++ (c ++ w)) name v

  -- array = begin-array [ value *( value-separator value ) ] end-array
  pub data array : Bytes → Members → Type 0 where
    no-elements : {b e : Bytes} → begin_array b → end_array e → array (b ++ e) Forest.none
    with-elements : {b w e : Bytes} {f : Members} → begin_array b → elements w f → end_array e → array (b ++ (w ++ e)) f

  -- value *( value-separator value )
  pub data elements : Bytes → Members → Type 0 where
    last_element : {w : Bytes} {v : Value.Value} → value w v → elements w (node [] v Forest.none)
    more-elements : {w c ws : Bytes} {v : Value.Value} {f : Members} → value w v → value_separator c → elements ws f →
        elements (w ++ (c ++ ws)) (node [] v f)

-- JSON-text = ws value ws
pub data JSON-text : Bytes → Value.Value → Type 0 where
  text : {before w after : Bytes} {v : Value.Value} → ws before → value w v → ws after → JSON-text (before ++ (w ++ after)) v
