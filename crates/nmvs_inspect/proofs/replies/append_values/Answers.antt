use Rattle.nmvs_inspect.proofs.ReplyLemmas.{whole}
use Rattle.nmvs_inspect.proofs.replies.append_values.Goals as goal

pub returns-in_err-number-clause-whole : goal.returns-in_err-number-clause-whole
returns-in_err-number-clause-whole c = whole c.args.reply.now c.tell_ranges.ensures

pub returns-in_err-detail-clause-whole : goal.returns-in_err-detail-clause-whole
returns-in_err-detail-clause-whole c = whole c.args.reply.now c.tell_ranges.ensures

pub returns-clause-whole : goal.returns-clause-whole
returns-clause-whole c = whole c.args.reply.now c.tell_ranges.ensures
