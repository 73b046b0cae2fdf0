-- A page for a browser (own): a verdict, product codes with their counts, alerts by week, premises, and the flagged alerts.
use Rattle.std.specs.Prelude.{ℕ, List, [], ◌∷◌, ◌++◌, codes, Option, Some, true}
use Rattle.std.specs.List.{flat_map}
use Rattle.nmvs_identifier.specs.Batch.{Batch}
use Rattle.nmvs_identifier.specs.Name.{Name}
use Rattle.nmvs_identifier.specs.ProductCode.{ProductCode}
use Rattle.nmvs_rules.specs.declared.entry.Entry.{Entry}
use Rattle.nmvs_rules.specs.declared.facts.BatchRecord.{BatchRecord}
use Rattle.nmvs_rules.specs.Trail.{alerts_of, counts_of, holder_of, lock_of}
use Rattle.nmvs_tables.specs.Codes.{flagged_alerts_of}
use Rattle.nmvs_tables.specs.Listing.{code_batches}
use Rattle.nmvs_words.specs.Words.{lock_word}
use Rattle.nmvs_words.specs.declared.reply_kind.ReplyKind.TheVariants as kinds
use Rattle.nmvs_reports.specs.Report.{holder_word}
use Rattle.nmvs_inspect.specs.declared.by.By.{By}
use Rattle.nmvs_inspect.specs.declared.by.By.TheVariants as by
use Rattle.nmvs_inspect.specs.declared.filter.Filter.{Filter}
use Rattle.nmvs_inspect.specs.declared.form.Form.TheVariants as form
use Rattle.nmvs_inspect.specs.Filter.{every}
use Rattle.nmvs_inspect.specs.Groups.{Group, group_row, groups_of}
use Rattle.nmvs_inspect.specs.Html.{escaped, html_row}
use Rattle.nmvs_inspect.specs.Premises.{premises_rows}
use Rattle.nmvs_inspect.specs.Rows.{Dated, entry_text}
use Rattle.nmvs_inspect.specs.Weeks.{chart}

-- the filters of alerts, and of those that are flagged
abbrev pub alerts : Filter
alerts = record every { reply = Some kinds.Alert }

abbrev pub flagged_alerts : Filter
flagged_alerts = record every { flagged = true }

-- the row of a product code: its holder, and the numbers of its alerts and of its flagged alerts
abbrev pub holder_row : ProductCode → Option Name → ℕ → ℕ → List ℕ
holder_row c holder alerts flagged = html_row (c.bytes ∷ holder_word holder ∷ []) (alerts ∷ flagged ∷ [])

abbrev pub product_row : List Entry → ProductCode → List ℕ
product_row t c = holder_row c (holder_of t c) (alerts_of t c) (flagged_alerts_of t c)

-- the row of a batch with a record: its lock, and the number of its packs of each own status
abbrev pub record_row : ProductCode → Batch → BatchRecord → List ℕ
record_row c b r = let n = r.counts in
    html_row (c.bytes ∷ b.bytes ∷ lock_word r.lock ∷ [])
    (n.active ∷ n.held ∷ n.supplied ∷ n.exported ∷ n.sampled ∷ n.destroyed ∷ n.stolen ∷ [])

abbrev pub batch_row : List Entry → ProductCode → Batch → List ℕ
batch_row t c b = record_row c b (record { lock = lock_of t c b; counts = counts_of t c b })

-- the rows of a product code's batches, in the order of their first accepted uploads
abbrev pub batch_rows : List Entry → ProductCode → List ℕ
batch_rows t c = flat_map (batch_row t c) (code_batches t c)

-- the heads of a table's columns, of texts and then of numbers, and the beginning of its rows
abbrev pub table_head : List (List ℕ) → List (List ℕ) → List ℕ
table_head texts numbers =
    codes "<thead><tr>" ++ (flat_map (λ t. codes "<th>" ++ (t ++ codes "</th>")) texts
    ++ (flat_map (λ t. codes "<th class=n>" ++ (t ++ codes "</th>")) numbers ++ codes "</tr></thead><tbody>"))

-- the text before the rows of product codes, of their batches, of weeks, of premises and of flagged alerts
abbrev pub products_head : List ℕ
products_head =
    codes "</pre>\n<p>Days, weeks and times are of UTC; a week is named by its Monday. A click on the head of a column sorts.</p>\n<h2>Product codes</h2>\n<div class=box><table>"
    ++ table_head (codes "Product code" ∷ codes "Holder" ∷ []) (codes "Alerts" ∷ codes "Flagged" ∷ [])

abbrev pub batches_head : List ℕ
batches_head =
    codes "</tbody></table></div>\n<h2>Batches</h2>\n<div class=box><table>"
    ++ table_head (codes "Product code" ∷ codes "Batch" ∷ codes "Lock" ∷ [])
    (codes "Active" ∷ codes "Held" ∷ codes "Supplied" ∷ codes "Exported" ∷ codes "Sampled" ∷ codes "Destroyed" ∷ codes "Stolen" ∷ [])

abbrev pub chart_head : List ℕ
chart_head = codes "</tbody></table></div>\n<h2>Alerts by week</h2>\n"

abbrev pub weeks_head : List ℕ
weeks_head = codes "<div class=box><table class=counts>" ++ table_head (codes "Week" ∷ []) (codes "Alerts" ∷ [])

abbrev pub premises_head : List ℕ
premises_head =
    codes "</tbody></table></div>\n<h2>Premises with the most flagged alerts</h2>\n<div class=box><table class=counts>"
    ++ table_head (codes "Authorisation" ∷ codes "Premises" ∷ []) (codes "Flagged alerts" ∷ [])

abbrev pub alerts_head : List ℕ
alerts_head =
    codes "</tbody></table></div>\n<h2>Flagged alerts</h2>\n<div class=box><table>"
    ++ table_head (codes "Moment" ∷ codes "User" ∷ codes "Authorisation" ∷ codes "Premises" ∷ codes "Question" ∷ codes "Product code"
    ∷ codes "Serial number" ∷ codes "Reply" ∷ codes "Role" ∷ codes "Batch" ∷ []) []

-- lines, each with its end
abbrev pub lines_of : List (List ℕ) → List ℕ
lines_of ls = flat_map (λ l. l ++ codes "\n") ls

-- what stands before the verdict, with the styles for a screen of any width, light or dark, and for paper
abbrev pub page_begin : List ℕ
page_begin =
    lines_of (
    codes "<!DOCTYPE html>"
    ∷ codes "<html lang=\"en\"><head><meta charset=\"utf-8\">"
    ∷ codes "<meta name=\"viewport\" content=\"width=device-width, initial-scale=1\">"
    ∷ codes "<meta http-equiv=\"Content-Security-Policy\" content=\"default-src 'none'; style-src 'unsafe-inline'; script-src 'unsafe-inline'\">"
    ∷ codes "<title>Export of a medicines verification repository</title>"
    ∷ codes "<style>"
    ∷ codes ":root { color-scheme: light dark; --bar: #2a6fb0 }"
    ∷ codes "body { font: 15px/1.5 system-ui, sans-serif; max-width: 80em; margin: 2em auto; padding: 0 1em }"
    ∷ codes "pre { font-size: 1.1em; white-space: pre-wrap; overflow-wrap: anywhere }"
    ∷ codes ".box { overflow: auto; max-height: 45em }"
    ∷ codes "table { border-collapse: collapse; font-variant-numeric: tabular-nums }"
    ∷ codes "th, td { text-align: left; vertical-align: top; padding: .2em 1em .2em 0; border-bottom: 1px solid #8886 }"
    ∷ codes "td:first-child { min-width: 6em }"
    ∷ codes "@media screen and (max-width: 60em) { th, td { white-space: nowrap } }"
    ∷ codes "th { position: sticky; top: 0; background: Canvas; cursor: pointer }"
    ∷ codes "th[aria-sort=ascending]::after { content: ' \\2191' }"
    ∷ codes "th[aria-sort=descending]::after { content: ' \\2193' }"
    ∷ codes ".n, .counts td:last-child { text-align: right }"
    ∷ codes "tbody:empty::after { content: 'None.' }"
    ∷ codes "figure { margin: 0 0 1em }"
    ∷ codes "svg { display: block; max-width: 100%; height: 10em; border-bottom: 1px solid #888 }"
    ∷ codes "rect { fill: var(--bar) }"
    ∷ codes "@media (prefers-color-scheme: dark) { :root { --bar: #7ab8f5 } }"
    ∷ codes "@page { size: A4 landscape; margin: 12mm }"
    ∷ codes "@media print { body { font-size: 8pt; max-width: none; margin: 0; padding: 0 } .box { overflow: visible; max-height: none }"
    ∷ codes "th { position: static } th, td { padding-right: .6em } tr, figure { break-inside: avoid } h2 { break-after: avoid } }"
    ∷ codes "</style></head><body>"
    ∷ codes "<h1>Export of a medicines verification repository</h1>"
    ∷ []
    ) ++ codes "<pre>"

-- the end, with the script that sorts a table by a column, upwards and at the next click downwards
abbrev pub page_end : List ℕ
page_end =
    lines_of (
    codes "</tbody></table></div>"
    ∷ codes "<script>"
    ∷ codes "for (const head of document.querySelectorAll('th')) {"
    ∷ codes "head.tabIndex = 0;"
    ∷ codes "head.onkeydown = event => { if (event.key === 'Enter') head.click() };"
    ∷ codes "head.onclick = () => {"
    ∷ codes "const way = head.ariaSort === 'ascending' ? 'descending' : 'ascending';"
    ∷ codes "const body = head.closest('table').tBodies[0];"
    ∷ codes "const text = row => row.cells[head.cellIndex].textContent;"
    ∷ codes "const rows = [...body.rows].sort((a, b) => text(a).localeCompare(text(b), 'en', { numeric: true }));"
    ∷ codes "for (const other of head.parentNode.cells) other.removeAttribute('aria-sort');"
    ∷ codes "head.setAttribute('aria-sort', way);"
    ∷ codes "body.append(...(way === 'ascending' ? rows : rows.reverse()));"
    ∷ codes "};"
    ∷ codes "}"
    ∷ codes "</script>"
    ∷ codes "</body></html>"
    ∷ []
    )

-- the verdict, the rows of product codes, and those of their batches
unfoldable pub head_text : List ℕ → List ℕ
head_text verdict = page_begin ++ (escaped verdict ++ products_head)

unfoldable pub front_text : List ℕ → List Entry → List ProductCode → List ℕ
front_text verdict t cs = head_text verdict ++ (flat_map (product_row t) cs ++ (batches_head ++ flat_map (batch_rows t) cs))

-- a picture of weeks, and their rows
abbrev pub by_week : List By
by_week = by.Week ∷ []

unfoldable pub weeks_text : List Group → List ℕ
weeks_text gs = chart_head ++ (chart gs ++ (weeks_head ++ flat_map (group_row form.Html by_week) gs))

-- the premises with the most flagged alerts
unfoldable pub premises_text : List Group → List ℕ
premises_text most = premises_head ++ premises_rows most

-- the rows of entries, and the end
unfoldable pub alerts_text : List Dated → List ℕ
alerts_text ds = alerts_head ++ (flat_map (entry_text form.Html) ds ++ page_end)

-- the page of product codes, alerts, each as a group of one, premises, the most flagged alerts first, and flagged alerts
abbrev pub page_text : List ℕ → List Entry → List ProductCode → List Group → List Group → List Dated → List ℕ
page_text verdict t cs each most ds =
    front_text verdict t cs ++ (weeks_text (groups_of by_week each) ++ (premises_text most ++ alerts_text ds))
