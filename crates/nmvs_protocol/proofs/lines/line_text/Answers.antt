use Rattle.std.proofs.Common.{ap, rules}
use Rattle.nmvs_protocol.specs.Lines.{line_text}
use Rattle.nmvs_protocol.proofs.lines.line_text.Goals as goal

pub returns-in-Ping-clause-line : goal.returns-in-Ping-clause-line
returns-in-Ping-clause-line g c = let is = ap line_text c.in-Ping.is in search (rules, is)

pub returns-in-Version-clause-line : goal.returns-in-Version-clause-line
returns-in-Version-clause-line g c = let is = ap line_text c.in-Version.is in search (rules, is)

pub returns-in-Help-clause-line : goal.returns-in-Help-clause-line
returns-in-Help-clause-line g c = let is = ap line_text c.in-Help.is in search (rules, is)

pub returns-in-Quit-clause-line : goal.returns-in-Quit-clause-line
returns-in-Quit-clause-line g c = let is = ap line_text c.in-Quit.is in search (rules, is)
