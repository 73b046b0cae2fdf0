use Rattle.std.proofs.Common.{◌∙◌, ◌++◌, ap, List, ℕ, append_assoc}
use Rattle.std.proofs.lemmas.Result.{on_ok_weaker}
use Rattle.nmvs_inspect.specs.Html.{escaped}
use Rattle.nmvs_inspect.specs.Page.{head_text}
use Rattle.nmvs_inspect.specs.declared.page.TheConstants.{HEAD, PRODUCTS}
use Rattle.nmvs_inspect.proofs.ListLemmas.{text-next}
use Rattle.nmvs_inspect.proofs.page.append_head.Goals as goal

pub returns : goal.returns
unfolding head_text
returns c =
    let old = c.args.block.now.items in
    let verdict = escaped c.args.verdict.now in
    on_ok_weaker c.append_html-2.result
    (λ h. text-next old (HEAD.now ++ verdict) PRODUCTS.now _ _ (text-next old HEAD.now verdict _ _ c.in_ok-append_html.ensures (c.in_ok-append_escaped.ensures.text ∙ ap (λ (x : List ℕ). c.append_html.new.block.items ++ escaped x) c.as_bytes.ensures.value)) h
    ∙ ap (λ (x : List ℕ). old ++ x) (append_assoc HEAD.now verdict PRODUCTS.now))
    c.append_html-2.ensures
