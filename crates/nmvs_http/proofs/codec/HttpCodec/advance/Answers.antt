use Rattle.std.proofs.Common.{◌≡◌, ◌≤◌, ◌+◌, ◌∙◌, ◌++◌, ℕ, List, length, take, drop, sym, ap, subst, arith}
use Rattle.std.proofs.lemmas.List.{drop_all, length-drop}
use Rattle.nmvs_http.proofs.CodecSteps.{is_sent, unsent_less}
use Rattle.nmvs_http.proofs.codec.HttpCodec.advance.Goals as goal

pub invariant_of-self : goal.invariant_of-self
invariant_of-self c =
    let is = c.self.inside in
    let unsent : c.args.self.now.unsent ≡ drop is.gone is.told.bytes.items = sym (ap (λ t. t.unsent) c.self.view_is) in
    let shown : c.unsent.result.now ≡ drop is.gone is.told.bytes.items = c.unsent.ensures.bytes ∙ unsent in
    let sent : c.extended-sent.result.numbers ≡ is.sent.numbers ++ take c.args.count (drop is.gone is.told.bytes.items) = c.extended-sent.ensures ∙ ap (λ (t : List ℕ). is.sent.numbers ++ take c.args.count t) shown in
    let all = c.if-self-len.true ∙ c.len.ensures in
    let fits : length is.told.bytes.items ≤ is.gone + c.args.count = let many = is.told.bytes.ok.0 in omega (arith, all, many) in
    let none : c.new-then-self-len.result.bytes.items ≡ drop (is.gone + c.args.count) is.told.bytes.items =
    (ap (λ v. v.items) c.new-then-self-len.ensures ∙ c.new.ensures.items) ∙ sym (drop_all (is.gone + c.args.count) is.told.bytes.items fits) in
    let same : c.extended-sent.result.numbers ++ c.new-then-self-len.result.bytes.items ≡ is.sent.numbers ++ drop is.gone is.told.bytes.items =
    (λ i. sent i ++ none i) ∙ unsent_less is.sent.numbers is.told.bytes.items is.gone c.args.count in
    (omega arith, is_sent (record { stage = is.stage; stream = is.requests; hand = is.hand; given = is.given.numbers; replies = is.replies.numbers; gathered = is.gathered.items; sent = is.sent.numbers; unsent = drop is.gone is.told.bytes.items }) c.extended-sent.result.numbers c.new-then-self-len.result.bytes.items same c.self.invariant.1)

pub invariant_of-self-else-self-len : goal.invariant_of-self-else-self-len
invariant_of-self-else-self-len c =
    let is = c.self.inside in
    let unsent : c.args.self.now.unsent ≡ drop is.gone is.told.bytes.items = sym (ap (λ t. t.unsent) c.self.view_is) in
    let fits : c.args.count ≤ length (drop is.gone is.told.bytes.items) = subst (λ (l : List ℕ). c.args.count ≤ length l) unsent c.requires in
    let left = length-drop is.gone is.told.bytes.items in
    let within = c.self.invariant.0 in
    let shown : c.unsent.result.now ≡ drop is.gone is.told.bytes.items = c.unsent.ensures.bytes ∙ unsent in
    let sent : c.extended-sent.result.numbers ≡ is.sent.numbers ++ take c.args.count (drop is.gone is.told.bytes.items) = c.extended-sent.ensures ∙ ap (λ (t : List ℕ). is.sent.numbers ++ take c.args.count t) shown in
    let same : c.extended-sent.result.numbers ++ drop (is.gone + c.args.count) is.told.bytes.items ≡ is.sent.numbers ++ drop is.gone is.told.bytes.items =
    ap (λ (t : List ℕ). t ++ drop (is.gone + c.args.count) is.told.bytes.items) sent ∙ unsent_less is.sent.numbers is.told.bytes.items is.gone c.args.count in
    (omega (arith, fits, left, within), is_sent (record { stage = is.stage; stream = is.requests; hand = is.hand; given = is.given.numbers; replies = is.replies.numbers; gathered = is.gathered.items; sent = is.sent.numbers; unsent = drop is.gone is.told.bytes.items }) c.extended-sent.result.numbers (drop (is.gone + c.args.count) is.told.bytes.items) same c.self.invariant.1)
