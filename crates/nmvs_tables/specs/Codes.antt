-- The record of a product code.
use Rattle.std.specs.Prelude.{ℕ, ◌≡◌, ◌+◌, Bool, false, ◌&&◌, List, count_by, Option, Some, None, unwrap_or, if◌then◌else◌}
use Rattle.std.specs.HashMap.{HashMap, get}
use Rattle.std.specs.Option.{option_or}
use Rattle.nmvs_identifier.specs.ProductCode.{ProductCode}
use Rattle.nmvs_identifier.specs.Name.{Name}
use Rattle.nmvs_identifier.specs.Texts.{same_text}
use Rattle.nmvs_rules.specs.declared.reply.Reply.{Reply}
use Rattle.nmvs_rules.specs.declared.reply.Reply.TheVariants as reply
use Rattle.nmvs_rules.specs.declared.entry.Entry.{Entry}
use Rattle.nmvs_rules.specs.Trail.{has_code, is_alert, is_upload, is_accepted, alerts_of, holder_of}
use Rattle.nmvs_tables.specs.declared.codes.CodeRecord.{CodeRecord}

-- the alert is flagged as a potential falsification (Article 36)
abbrev pub is_flagged_alert : Reply → Bool
is_flagged_alert (reply.Alert _ flagged _) = flagged
is_flagged_alert _ = false

-- the number of alerts on the product code that were flagged (Article 36)
abbrev pub flagged_alerts_of : List Entry → ProductCode → ℕ
flagged_alerts_of t c = count_by (λ e. has_code c e && is_flagged_alert e.reply) t

-- the product code's holder, and its numbers of alerts and of flagged alerts
abbrev pub code_record : List Entry → ProductCode → CodeRecord
code_record t c = record { holder = holder_of t c; alerts = alerts_of t c; flagged = flagged_alerts_of t c }

-- the record of a product code that no entry names
abbrev pub no_code : CodeRecord
no_code = record { holder = None; alerts = 0; flagged = 0 }

-- the record of a product code in a table
abbrev pub code_in : {S : Type 0} → HashMap ProductCode CodeRecord S → ProductCode → CodeRecord
code_in m c = unwrap_or (get same_text m c) no_code

-- the table has the record of each product code
abbrev pub AreCodesOf : {S : Type 0} → HashMap ProductCode CodeRecord S → List Entry → Type 0
AreCodesOf m t = (c : ProductCode) → code_in m c ≡ code_record t c

-- 1 if the test passes, else 0
abbrev pub one_if : Bool → ℕ
one_if b = if b then 1 else 0

-- the authorisation that an accepted upload makes holder, if there is none yet (own)
abbrev pub uploader : Entry → Option Name
uploader e = if is_upload e.put.question && is_accepted e then Some e.put.actor.authorisation else None

-- the record of the product code that an entry names, after it
abbrev pub code_noted : Entry → CodeRecord → CodeRecord
code_noted e r = record {
  holder = option_or r.holder (uploader e);
  alerts = r.alerts + one_if (is_alert e.reply);
  flagged = r.flagged + one_if (is_flagged_alert e.reply);
}

-- the record of any product code, after an entry
abbrev pub code_after : ProductCode → Entry → CodeRecord → CodeRecord
code_after c e r = if has_code c e then code_noted e r else r
