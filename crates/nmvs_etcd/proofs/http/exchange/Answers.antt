use Rattle.std.proofs.Common.{◌∙◌, ◌++◌, ℕ, List, ap}
use Rattle.std.proofs.lemmas.Option.{IfSome_then}
use Rattle.nmvs_etcd.proofs.http.exchange.Goals as goal

pub returns-then-is_sent : goal.returns-then-is_sent
returns-then-is_sent g c =
    IfSome_then c.read_answer.result c.read_answer.ensures
    (λ answer came. let went = c.is_sent.ensures c.if-is_sent.true in
    record {
      request = went.request;
      answer = came.1.answer;
      went = came.0 ∙ went.went;
      came = came.1.came ∙ ap (λ (t : List ℕ). t ++ came.1.answer) went.quiet;
      asks = went.asks;
      answers = came.1.answers;
    })
