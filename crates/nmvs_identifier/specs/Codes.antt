-- Lists of product codes and GS1 company prefixes, with commas between them: the products that a holder may upload (own).
use Rattle.std.specs.Prelude.{ℕ, Bool, List, length, drop, nat_eq, nat_le, ◌==◌, ◌&&◌, ◌||◌}
use Rattle.std.specs.List.{list_all, list_any, slice_split, starts_with}
use Rattle.std.specs.Char.{is_ascii_digit}
use Rattle.std.specs.Str.{bytes_eq}
use Rattle.nmvs_identifier.specs.ProductCode.{ProductCode, is_product_code}
use Rattle.nmvs_identifier.specs.Texts.{Text}

-- the model of a list
abbrev pub Codes : Type 0
Codes = Text

-- the most bytes of a list: those of four product codes with three commas
abbrev pub longest_codes : ℕ
longest_codes = 59

-- the texts between the commas
abbrev pub codes_in : List ℕ → List (List ℕ)
codes_in t = slice_split (λ b. b == 44) t

-- whether a text is a company prefix: 4 to 12 digits (GS1 General Specifications, section 1.4.5)
abbrev pub is_company_prefix : List ℕ → Bool
is_company_prefix t = nat_le 4 (length t) && nat_le (length t) 12 && list_all is_ascii_digit t

-- whether a text is a product code or a company prefix
abbrev pub is_code_or_prefix : List ℕ → Bool
is_code_or_prefix t = is_product_code t || is_company_prefix t

-- whether a text is a list
abbrev pub is_codes : List ℕ → Bool
is_codes t = nat_le (length t) longest_codes && list_all is_code_or_prefix (codes_in t)

-- whether a product code is this code, or has this company prefix after its first digit, the indicator (GS1 General
-- Specifications, section 3.3.2)
abbrev pub is_named_by : List ℕ → List ℕ → Bool
is_named_by code t = bytes_eq t code || starts_with nat_eq (drop 1 code) t

-- whether a list has a product code, by itself or by its company prefix
abbrev pub covers : Codes → ProductCode → Bool
covers codes code = list_any (is_named_by code.bytes) (codes_in codes.bytes)
