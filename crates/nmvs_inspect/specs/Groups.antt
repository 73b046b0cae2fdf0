-- Entries that are counted in groups (own): those of a group have the same parts, such as day and cause.
use Rattle.std.specs.Prelude.{◌≡◌, ℕ, ◌+◌, ◌%◌, ◌≤◌, List, [], ◌∷◌, ◌++◌, Bool, if◌then◌else◌, take, map, fold, find, codes, decimal, pos, ℤ, ◌-ℤ◌, Option}
use Rattle.std.specs.List.{flat_map, All}
use Rattle.std.specs.Str.{bytes_eq}
use Rattle.std.specs.Global.{Vec}
use Rattle.jiff_core.specs.Date.{epoch_day}
use Rattle.jiff_fmt.specs.Text.{date_text}
use Rattle.nmvs_identifier.specs.Moment.{day_of}
use Rattle.nmvs_rules.specs.declared.entry.Entry.{Entry}
use Rattle.nmvs_rules.specs.Questions.{code_of}
use Rattle.nmvs_words.specs.Kinds.{kind_of, kind_word}
use Rattle.nmvs_words.specs.ReplyKinds.{kind_of_reply, reply_word}
use Rattle.nmvs_words.specs.Words.{role_word}
use Rattle.nmvs_inspect.specs.declared.by.By.{By}
use Rattle.nmvs_inspect.specs.declared.by.By.TheVariants as by
use Rattle.nmvs_inspect.specs.declared.filter.Filter.{Filter}
use Rattle.nmvs_inspect.specs.declared.form.Form.{Form}
pub use Rattle.nmvs_inspect.specs.declared.groups.Group.{Group}
use Rattle.nmvs_inspect.specs.Replies.{cause_text}
use Rattle.nmvs_inspect.specs.Rows.{row_in}
use Rattle.nmvs_inspect.specs.Selection.{selected}

-- the word of a part that entries are counted by
abbrev pub by_word : By → List ℕ
by_word by.Day = codes "day"
by_word by.Week = codes "week"
by_word by.Month = codes "month"
by_word by.Cause = codes "cause"
by_word by.Premises = codes "premises"
by_word by.Authorisation = codes "authorisation"
by_word by.Code = codes "code"
by_word by.User = codes "user"
by_word by.Role = codes "role"
by_word by.Word = codes "word"
by_word by.Reply = codes "reply"

-- all parts that entries are counted by
abbrev pub all_by : List By
all_by =
    by.Day ∷ by.Week ∷ by.Month ∷ by.Cause ∷ by.Premises ∷ by.Authorisation ∷ by.Code ∷ by.User ∷ by.Role ∷ by.Word
    ∷ by.Reply ∷ []

-- the part that has this word
abbrev pub by_named : List ℕ → Option By
by_named w = find (λ b. bytes_eq w (by_word b)) all_by

-- the width of its column
abbrev pub by_width : By → ℕ
by_width by.Day = 10
by_width by.Week = 10
by_width by.Month = 7
by_width by.Cause = 9
by_width by.Premises = 8
by_width by.Authorisation = 13
by_width by.Code = 14
by_width by.User = 8
by_width by.Role = 12
by_width by.Word = 8
by_width by.Reply = 14

-- the Monday on a day or before it, both in days since 1970-01-01, which was a Thursday
abbrev pub monday_of : ℕ → ℤ
monday_of n = pos n -ℤ pos ((n + 3) % 7)

-- a group of one entry, with the dates of its day and of its Monday, by UTC
abbrev pub IsSingle : Group → Type 0
IsSingle g =
    let n = day_of g.first.put.moment in (epoch_day g.day ≡ pos n) × (epoch_day g.monday ≡ monday_of n) × (g.number ≡ 1)

-- the entries of a trail that a filter takes, oldest first, each as a group of one
pub record AreSingle (f : Filter) (t : List Entry) (gs : List Group) : Type 0 where
  pub these : map (λ g. g.first) gs ≡ selected f t
  pub single : All IsSingle gs

-- a part of the first entry of a group
abbrev pub part : Group → By → List ℕ
part g by.Day = date_text g.day
part g by.Week = date_text g.monday
part g by.Month = take 7 (date_text g.day)
part g by.Cause = cause_text g.first.reply
part g by.Premises = g.first.put.actor.premises.bytes
part g by.Authorisation = g.first.put.actor.authorisation.bytes
part g by.Code = (code_of g.first.put.question).bytes
part g by.User = g.first.put.user.bytes
part g by.Role = role_word g.first.put.actor.role
part g by.Word = kind_word (kind_of g.first.put.question)
part g by.Reply = reply_word (kind_of_reply g.first.reply)

-- its parts, each with a tabulator after it, which no part has
abbrev pub parts : List By → Group → List ℕ
parts bs g = flat_map (λ b. part g b ++ 9 ∷ []) bs

-- whether a group has the parts of another
abbrev pub is_in : List By → Group → Group → Bool
is_in bs d g = bytes_eq (parts bs d) (parts bs g)

-- groups with one more entry: it counts in the group that has its parts, or is a new group at the end
abbrev pub with_entry : List By → List Group → Group → List Group
with_entry bs [] d = d ∷ []
with_entry bs (g ∷ gs) d =
    if is_in bs d g then record g { number = g.number + 1 } ∷ gs else g ∷ with_entry bs gs d

-- the groups of entries, in order of first appearance
abbrev pub groups_of : List By → List Group → List Group
groups_of bs ds = fold (with_entry bs) [] ds

-- the state while entries are counted: the parts of each group, in their order, and numbers that are not above n
abbrev pub HasPartsOf : List By → List (Vec ℕ) → List Group → Type 0
HasPartsOf bs keys gs = map (λ k. k.items) keys ≡ map (parts bs) gs

abbrev pub HasNumbersUpTo : ℕ → List Group → Type 0
HasNumbersUpTo n gs = All (λ g. g.number ≤ n) gs

-- the cells of a group's row: its parts, and the number of its entries
abbrev pub group_cells : List By → Group → List (List ℕ)
group_cells bs g = map (part g) bs ++ decimal g.number ∷ []

abbrev pub group_row : Form → List By → Group → List ℕ
group_row form bs g = row_in (map by_width bs) form (group_cells bs g)

-- the heads of the columns
abbrev pub head_cells : List By → List (List ℕ)
head_cells bs = map by_word bs ++ codes "entries" ∷ []

abbrev pub heads : Form → List By → List ℕ
heads form bs = row_in (map by_width bs) form (head_cells bs)

-- the text of the groups of entries, under their heads
abbrev pub groups_text : Form → List By → List Group → List ℕ
groups_text form bs ds = heads form bs ++ flat_map (group_row form bs) (groups_of bs ds)
