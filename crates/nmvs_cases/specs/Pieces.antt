-- The texts of a line of an act, cut out by the marks around them (own). That the marks are the right ones shows when the line is
-- written again.
use Rattle.std.specs.Prelude.{ℕ, ◌==◌, List, [], ◌∷◌, Option, Some, None, option_map, option_and_then, if◌then◌else◌}
use Rattle.nmvs_cases.specs.declared.act.Act.{Act}
use Rattle.nmvs_cases.specs.declared.pieces.Pieces.{Pieces as PiecesOf}
use Rattle.nmvs_cases.specs.declared.pieces.ActPiece.{ActPiece as ActPieceOf}
use Rattle.nmvs_cases.specs.ActWords.{act_named, act_named_with, has_text}

infixl 10 ◌>>=◌
abbrev pub ◌>>=◌ : {A B : Type 0} → Option A → (A → Option B) → Option B
o >>= f = option_and_then f o

-- a text up to a mark, and what follows the mark
abbrev pub cut : ℕ → List ℕ → Option (List ℕ × List ℕ)
cut mark [] = None
cut mark (b ∷ bs) = if b == mark then Some ([], bs) else option_map (λ p. (b ∷ p.0, p.1)) (cut mark bs)

-- a text up to a mark, and what follows the next mark at which another text begins
abbrev pub piece : ℕ → ℕ → List ℕ → Option (List ℕ × List ℕ)
piece end begin t = option_and_then (λ p. option_map (λ q. (p.0, q.1)) (cut begin p.1)) (cut end t)

-- the texts of a line up to the word of its act, and the rest
pub record Pieces : Type 0 where
  pub at : List ℕ
  pub moment : List ℕ
  pub user : List ℕ
  pub role : List ℕ
  pub authorisation : List ℕ
  pub premises : List ℕ
  pub code : List ℕ
  pub first : List ℕ
  pub last : List ℕ
  pub hint : List ℕ
  pub act : List ℕ
  pub rest : List ℕ

abbrev pub pieces_stated : PiecesOf → Pieces
pieces_stated p = record {
  at = p.at.now;
  moment = p.moment.now;
  user = p.user.now;
  role = p.role.now;
  authorisation = p.authorisation.now;
  premises = p.premises.now;
  code = p.code.now;
  first = p.first.now;
  last = p.last.now;
  hint = p.hint.now;
  act = p.act.now;
  rest = p.rest.now;
}

unfoldable pub pieces_in : List ℕ → Option Pieces
pieces_in t = do
  version ← cut 44 t
  at ← cut 44 version.1
  moment ← piece 44 34 at.1
  user ← piece 34 34 moment.1
  role ← piece 34 34 user.1
  authorisation ← piece 34 34 role.1
  premises ← piece 34 34 authorisation.1
  code ← piece 34 44 premises.1
  first ← cut 44 code.1
  last ← piece 44 34 first.1
  hint ← piece 34 34 last.1
  act ← cut 34 hint.1
  Some (record {
    at = at.0;
    moment = moment.0;
    user = user.0;
    role = role.0;
    authorisation = authorisation.0;
    premises = premises.0;
    code = code.0;
    first = first.0;
    last = last.0;
    hint = hint.0;
    act = act.0;
    rest = act.1;
  })

-- an act, and the rest after it: from its text on, if it has one
pub record ActPiece : Type 0 where
  pub act : Act
  pub rest : List ℕ

abbrev pub act_piece_stated : ActPieceOf → ActPiece
act_piece_stated p = record { act = p.act; rest = p.rest.now }

abbrev pub worded_act : Act → List ℕ → Option ActPiece
worded_act a rest = if has_text a then option_map (λ q. record { act = a; rest = q.1 }) (cut 34 rest) else Some (record { act = a; rest = rest })

abbrev pub detailed_act : List ℕ → List ℕ → Option ActPiece
detailed_act word rest =
    option_and_then (λ p. option_and_then (λ q. option_map (λ a. record { act = a; rest = q.1 }) (act_named_with word q.0)) (piece 34 34 p.1)) (cut 34 rest)

abbrev pub act_by : Option Act → List ℕ → List ℕ → Option ActPiece
act_by (Some a) word rest = worded_act a rest
act_by None word rest = detailed_act word rest

-- the act with this word, and the rest after it
abbrev pub act_in : List ℕ → List ℕ → Option ActPiece
act_in word rest = act_by (act_named word) word rest
