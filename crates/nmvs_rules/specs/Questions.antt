-- Questions: the pack, the product code and the batch that they name, and the roles that may ask them.
use Rattle.std.specs.Prelude.{Bool, true, false, Option, Some, None}
use Rattle.nmvs_identifier.specs.ProductCode.{ProductCode}
use Rattle.nmvs_identifier.specs.Batch.{Batch}
use Rattle.nmvs_identifier.specs.declared.pack.Pack.{Pack}
use Rattle.nmvs_identifier.specs.Pack.{same_pack}
use Rattle.nmvs_rules.specs.declared.role.Role.{Role}
use Rattle.nmvs_rules.specs.declared.role.Role.TheVariants as role
use Rattle.nmvs_rules.specs.declared.reason.Reason.{Reason}
use Rattle.nmvs_rules.specs.declared.reason.Reason.TheVariants as reason
use Rattle.nmvs_rules.specs.declared.question.Question.{Question}
use Rattle.nmvs_rules.specs.declared.question.Question.TheVariants.{Upload, OfPack, OfBatch}
use Rattle.nmvs_rules.specs.declared.pack_question.PackQuestion.TheVariants.{Verify, Status, Decommission, Handover, Revert, Theft, Audit}

-- the pack that a question names; a recall or withdrawal names none, because it binds a whole batch (Article 40)
abbrev pub pack_of : Question → Option Pack
pack_of (Upload p b x) = Some p
pack_of (OfPack asked p) = Some p
pack_of (OfBatch asked c b) = None

-- the product code that a question names, by itself or in a pack (Articles 4 and 40)
abbrev pub code_of : Question → ProductCode
code_of (Upload p b x) = p.code
code_of (OfPack asked p) = p.code
code_of (OfBatch asked c b) = c

-- the batch that a recall or withdrawal names, with its product code (Article 40)
abbrev pub locked_batch : Question → Option Batch
locked_batch (OfBatch asked c b) = Some b
locked_batch _ = None

-- whether the pack that is named, if any, is p (own)
abbrev pub names : Pack → Option Pack → Bool
names p None = false
names p (Some r) = same_pack p r

-- whether a role may decommission for a reason (own, after Articles 19, 22 and 25)
abbrev pub may_decommission : Role → Reason → Bool
may_decommission role.Manufacturer reason.Export = true
may_decommission role.Manufacturer reason.Sample = true
may_decommission role.Manufacturer reason.Destroy = true
may_decommission role.Wholesaler reason.Export = true
may_decommission role.Wholesaler reason.Sample = true
may_decommission role.Wholesaler reason.Destroy = true
may_decommission role.Wholesaler reason.Hold = true
may_decommission role.Pharmacy reason.Sample = true
may_decommission role.Pharmacy reason.Destroy = true
may_decommission role.Pharmacy reason.Hold = true
may_decommission role.Pharmacy reason.Supply = true
may_decommission _ _ = false

-- whether a role handles packs: manufacturers, wholesalers and suppliers to the public (own, after Articles 10 to 13, 16, 19,
-- 20 and 25)
abbrev pub is_handler : Role → Bool
is_handler role.Manufacturer = true
is_handler role.Wholesaler = true
is_handler role.Pharmacy = true
is_handler _ = false

-- whether a role supplies packs to the public, a healthcare institution among them (Article 25)
abbrev pub is_supplier : Role → Bool
is_supplier role.Pharmacy = true
is_supplier _ = false

-- whether a role is that of a marketing authorisation holder (Article 40)
abbrev pub is_holder : Role → Bool
is_holder role.Holder = true
is_holder _ = false

-- whether a role is that of a competent authority, which sees the record of operations (Articles 36(i), 37(f) and 39)
abbrev pub is_authority : Role → Bool
is_authority role.Authority = true
is_authority _ = false

-- whether a role may ask a question; all may read the status (own, after Articles 22, 25, 36 and 40)
abbrev pub may_ask : Role → Question → Bool
may_ask r (Upload _ _ _) = is_holder r
may_ask r (OfBatch _ _ _) = is_holder r
may_ask r (OfPack Theft _) = is_holder r
may_ask r (OfPack Verify _) = is_handler r
may_ask r (OfPack Revert _) = is_handler r
may_ask r (OfPack (Decommission reason) _) = may_decommission r reason
may_ask r (OfPack Handover _) = is_supplier r
may_ask r (OfPack Status _) = true
may_ask r (OfPack Audit _) = is_authority r

-- whether a role gets the report of a product code, which is no question of a trail (own, after Articles 36 and 39)
abbrev pub may_report : Role → Bool
may_report r = is_authority r
