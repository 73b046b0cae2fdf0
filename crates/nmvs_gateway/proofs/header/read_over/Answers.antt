use Rattle.std.proofs.Common.{◌≡◌, ◌++◌, [], None, Some, arith, sym, ap, ◌∙◌}
use Rattle.std.proofs.lemmas.Bool.{false≢true}
use Rattle.std.proofs.lemmas.Bool.Decides.{Decides-eqb}
use Rattle.std.proofs.lemmas.List.{append-nil, nil_from_length}
use Rattle.std.proofs.lemmas.Slice.Eq.{starts_is, strip_prefix_is}
use Rattle.nmvs_gateway.proofs.Frames.{begun_start, begun_whole_start, no_start, behind_length, size_fits, begun_content, cut_content, whole_header, nameless}
use Rattle.nmvs_gateway.proofs.header.read_over.Goals as goal

pub returns-then-starts_with : goal.returns-then-starts_with
returns-then-starts_with c =
    let start = c.args.start.now in
    let bytes = c.args.bytes.now in
    begun_start start bytes _ ((starts_is Decides-eqb start bytes _ c.starts_with.ensures.value).0 c.if-starts_with.true)

pub returns-in_default : goal.returns-in_default
returns-in_default c =
    let start = c.args.start.now in
    let bytes = c.args.bytes.now in
    let begins = starts_is Decides-eqb start bytes _ c.starts_with.ensures.value in
    no_start start bytes c.args.addresses
    (strip_prefix_is Decides-eqb bytes start None c.in_default.ensures.cases)
    (λ rest e. false≢true (sym c.if-starts_with.false ∙ begins.1 rest e))

pub returns-in_default-rest : goal.returns-in_default-rest
returns-in_default-rest c =
    let start = c.args.start.now in
    let bytes = c.args.bytes.now in
    let rest = c.in-Some.rest.now in
    let these = strip_prefix_is Decides-eqb bytes start (Some c.in-Some.rest) c.in-Some.ensures.cases in
    let none : rest ≡ [] = nil_from_length rest (omega (arith, c.in_default-rest.len_below)) in
    begun_whole_start start bytes (these ∙ ap (λ y. start ++ y) none ∙ append-nil start)

pub returns-in_default-split_at_checked : goal.returns-in_default-split_at_checked
returns-in_default-split_at_checked c =
    let start = c.args.start.now in
    let bytes = c.args.bytes.now in
    let rest = c.in-Some.rest.now in
    let these = strip_prefix_is Decides-eqb bytes start (Some c.in-Some.rest) c.in-Some.ensures.cases in
    let framed = behind_length start bytes rest c.from-length.result these (omega (arith, c.in-len1-up.len_at_least)) c.from-length.ensures in
    begun_content start bytes _ c.from-length.result framed (omega (arith, c.in_default-split_at_checked.ensures.cases))
    (size_fits start bytes rest c.from-length.result these c.from-length.ensures (λ i. omega (arith, c.type_inv.bytes i)))

pub returns-in-Some-verified_name : goal.returns-in-Some-verified_name
returns-in-Some-verified_name c =
    let start = c.args.start.now in
    let bytes = c.args.bytes.now in
    let rest = c.in-Some.rest.now in
    let these = strip_prefix_is Decides-eqb bytes start (Some c.in-Some.rest) c.in-Some.ensures.cases in
    let framed = behind_length start bytes rest c.from-length.result these (omega (arith, c.in-len1-up.len_at_least)) c.from-length.ensures in
    let cut = c.in-Some-split_at_checked.ensures.cases in
    whole_header start bytes c.in-Some-split_at_checked.content.now c.in-Some-split_at_checked.behind.now _ c.from-length.result c.args.addresses
    (cut_content start bytes _ _ _ c.from-length.result framed cut.1 cut.2) cut.3
    (size_fits start bytes rest c.from-length.result these c.from-length.ensures (λ i. omega (arith, c.type_inv.bytes i)))
    c.in-Some-verified_name.ensures.some

pub returns-in-None : goal.returns-in-None
returns-in-None c =
    let start = c.args.start.now in
    let bytes = c.args.bytes.now in
    let rest = c.in-Some.rest.now in
    let these = strip_prefix_is Decides-eqb bytes start (Some c.in-Some.rest) c.in-Some.ensures.cases in
    let framed = behind_length start bytes rest c.from-length.result these (omega (arith, c.in-len1-up.len_at_least)) c.from-length.ensures in
    let cut = c.in-Some-split_at_checked.ensures.cases in
    nameless start bytes c.in-Some-split_at_checked.content.now c.in-Some-split_at_checked.behind.now c.from-length.result c.args.addresses
    (cut_content start bytes _ _ _ c.from-length.result framed cut.1 cut.2) cut.3 c.in-None.ensures.none
