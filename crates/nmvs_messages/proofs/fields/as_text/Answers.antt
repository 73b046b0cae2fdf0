use Rattle.nmvs_messages.proofs.FieldLemmas.{printable-utf8}
use Rattle.nmvs_messages.proofs.fields.as_text.Goals as goal

pub from_utf8_unchecked-requires : goal.from_utf8_unchecked-requires
from_utf8_unchecked-requires c = printable-utf8 c.args.bytes.now c.requires
