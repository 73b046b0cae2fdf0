-- The record of a pack.
use Rattle.std.specs.Prelude.{ℕ, zero, suc, ◌≡◌, ◌+◌, ◌-◌, ◌≤◌, ◌==◌, Bool, not, nat_lt, List, [], ◌∷◌, ◌++◌, length, slice_get, slice_set, Option, Some, None, unwrap_or, if◌then◌else◌}
use Rattle.std.specs.List.{All, suffix_len}
use Rattle.nmvs_identifier.specs.declared.pack.Pack.{Pack}
use Rattle.nmvs_rows.specs.Rows.{known_of, number_in, packs_of}
use Rattle.nmvs_rules.specs.declared.entry.Entry.{Entry}
use Rattle.nmvs_rules.specs.declared.facts.Known.{Known}
use Rattle.nmvs_rules.specs.Trail.{known, about_of, marked_by, is_about, is_accepted, is_upload}
use Rattle.nmvs_tables.specs.declared.packs.PackRecord.{PackRecord}
use Rattle.nmvs_tables.specs.declared.packs.PackRow.{PackRow}
use Rattle.nmvs_tables.specs.declared.packs.Places.{Places}

-- the record of a pack that some entry is about (Article 35)
abbrev pub pack_record : List Entry → Pack → Option PackRecord
pack_record t p = if about_of t p == 0 then None else Some (record { about = about_of t p; known = known t p })

-- the number of entries up to the last one about the pack, which counts too (own). It is that of all but the run of
-- other entries at the end, and 0 if none is about it.
abbrev pub last_of : List Entry → Pack → ℕ
last_of t p = length t - suffix_len (λ e. not (is_about p e)) t

-- the row of a pack: its record, and the place of its last entry
abbrev pub pack_row : List Entry → Pack → PackRow
pack_row t p = record { about = about_of t p; known = known t p; last = last_of t p }

-- the row of a pack that no entry is about
abbrev pub no_entries : PackRow
no_entries = record { about = 0; known = None; last = 0 }

abbrev pub no_places : Places
no_places = record { about = 0; last = 0; upload = 0; mark = 0 }

-- the last of this number of entries
abbrev pub entry_before : List Entry → ℕ → Option Entry
entry_before t zero = None
entry_before t (suc n) = slice_get t n

-- the values known of a pack by the places of its entries
abbrev pub known_by : List Entry → Places → Option Known
known_by t w = known_of (entry_before t w.upload) (entry_before t w.mark) (w.mark - 1)

-- the row that places give
abbrev pub row_by : List Entry → Places → PackRow
row_by t w = record { about = w.about; known = known_by t w; last = w.last }

-- the places of the pack with this number in a table
abbrev pub places_at : List Places → ℕ → Places
places_at ws n = unwrap_or (slice_get ws n) no_places

-- the places of a pack in a table
abbrev pub places_in : List Entry → List Places → Pack → Places
places_in t ws p = places_at ws (number_in (packs_of t) p)

-- the row of a pack in a table
abbrev pub row_in : List Entry → List Places → Pack → PackRow
row_in t ws p = row_by t (places_in t ws p)

-- each place is one of the trail
pub record IsWithin (t : List Entry) (w : Places) : Type 0 where
  pub about : w.about ≤ length t
  pub upload : w.upload ≤ length t
  pub mark : w.mark ≤ length t

-- there are places for each pack that the entries name, and no more
pub record AreWithin (t : List Entry) (ws : List Places) : Type 0 where
  pub many : length ws ≡ length (packs_of t)
  pub within : All (IsWithin t) ws

-- the table has the row of each pack
pub record ArePacksOf (ws : List Places) (t : List Entry) : Type 0 where
  pub within : AreWithin t ws
  pub rows : (p : Pack) → row_in t ws p ≡ pack_row t p

-- the record that a row has
abbrev pub record_by : PackRow → Option PackRecord
record_by r = if r.about == 0 then None else Some (record { about = r.about; known = r.known })

-- the number of the pack that a question names, among those that the entries name; 0 if it names none
abbrev pub number_named : List Entry → Option Pack → ℕ
number_named t None = 0
number_named t (Some p) = number_in (packs_of t) p

-- the row of the pack that a question names, in a table
abbrev pub row_named : List Entry → List Places → Option Pack → PackRow
row_named t ws None = no_entries
row_named t ws (Some p) = row_in t ws p

-- the places of a pack after an accepted entry about it, up to which this number of entries stand
abbrev pub places_marked : ℕ → Bool → Bool → Places → Places
places_marked count is_known is_birth w =
    if is_known then record w { mark = count } else (if is_birth then record w { upload = count; mark = count } else w)

-- the places of a pack after an entry about it
abbrev pub places_after : ℕ → Entry → Bool → Places → Places
places_after count e is_known w =
    let marked = if is_accepted e then places_marked count is_known (is_upload e.put.question) w else w in
    record { about = w.about + 1; last = count; upload = marked.upload; mark = marked.mark }

-- the table with the places of a pack at its number; a new pack has the next number
abbrev pub changed : List Places → Option (ℕ × Places) → List Places
changed ws None = ws
changed ws (Some c) = if nat_lt c.0 (length ws) then slice_set ws c.0 c.1 else ws ++ c.1 ∷ []

-- the row of the pack that an entry at a place is about, after it
abbrev pub row_after : ℕ → Entry → PackRow → PackRow
row_after place e r = record {
  about = r.about + 1;
  known = if is_accepted e then marked_by place e r.known else r.known;
  last = place + 1;
}

-- the row of any pack after an entry at a place
abbrev pub pack_after : Pack → ℕ → Entry → PackRow → PackRow
pack_after p place e r = if is_about p e then row_after place e r else r
