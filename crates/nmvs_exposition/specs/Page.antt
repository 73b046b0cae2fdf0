-- The page of metrics, in the text format of Prometheus, version 0.0.4 (own).
use Rattle.std.specs.Prelude.{ℕ, List, [], ◌∷◌, ◌+◌, ◌-◌, ◌^◌, ◌++◌, Option, Some, None, codes, decimal, min}
use Rattle.std.specs.List.{flat_map}
use Rattle.nmvs_metrics.specs.declared.snapshot.Bucket.{Bucket}
use Rattle.nmvs_metrics.specs.declared.snapshot.Histogram as declared
use Rattle.nmvs_metrics.specs.declared.snapshot.Label.{Label}
use Rattle.nmvs_metrics.specs.declared.snapshot.Label.TheVariants.{Word, Number, Words}
use Rattle.nmvs_metrics.specs.declared.snapshot.Sample.{Sample}
use Rattle.nmvs_metrics.specs.declared.snapshot.Values.{Values}
use Rattle.nmvs_metrics.specs.declared.snapshot.Values.TheVariants.{One, Time, Labelled, Histogram}
use Rattle.nmvs_metrics.specs.Families.{Row, families}

-- these lines of a family after their head: their help text and their type
abbrev pub headed : Row → List ℕ → List ℕ
headed r lines =
    codes "# HELP " ++ (r.name ++ (codes " " ++ (r.help ++ (codes "\n# TYPE " ++ (r.name ++ (codes " " ++ (r.kind ++ (codes "\n" ++ lines))))))))

-- the line of a sample with one label
abbrev pub labelled : Row → List ℕ → ℕ → List ℕ
labelled r text value =
    r.name ++ (codes "{" ++ (r.label ++ (codes "=\"" ++ (text ++ (codes "\"} " ++ (decimal value ++ codes "\n"))))))

-- the line of a sample with two labels
abbrev pub labelled_twice : Row → List ℕ → List ℕ → ℕ → List ℕ
labelled_twice r text other value =
    r.name ++ (codes "{" ++ (r.label ++ (codes "=\"" ++ (text ++ (codes "\"," ++ (r.second ++ (codes "=\"" ++ (other ++ (codes "\"} " ++ (decimal value ++ codes "\n"))))))))))

-- the line of a number with this label
abbrev pub line_of : Row → Label → ℕ → List ℕ
line_of r (Word word) value = labelled r word.now value
line_of r (Number number) value = labelled r (decimal number) value
line_of r (Words word other) value = labelled_twice r word.now other.now value

-- the line of a sample with labels
abbrev pub labelled_line : Row → Sample → List ℕ
labelled_line r s = line_of r s.label s.value

-- two counts together, as far as 64 bits hold them
abbrev pub together : ℕ → ℕ → ℕ
together one other = min (one + other) (2 ^ 64 - 1)

-- the line of a bucket of times that are no longer than this bound
unfoldable pub bucket_line : List ℕ → List ℕ → ℕ → List ℕ
bucket_line name bound count =
    name ++ (codes "_bucket{le=\"" ++ (bound ++ (codes "\"} " ++ (decimal count ++ codes "\n"))))

-- the lines of the buckets of one name, if this number is below the first: each counts what those before it count, too
abbrev pub bucket_lines : List ℕ → ℕ → List Bucket → List ℕ
bucket_lines name below [] = []
bucket_lines name below (b ∷ bs) =
    bucket_line name b.bound.now (together below b.count) ++ bucket_lines name (together below b.count) bs

-- the count of all buckets, with this number below the first of them
abbrev pub bucket_count : ℕ → List Bucket → ℕ
bucket_count below [] = below
bucket_count below (b ∷ bs) = bucket_count (together below b.count) bs

-- a histogram of one name: its buckets, the seconds of all, and how many there were
abbrev pub histogram_lines : List ℕ → declared.Histogram → List ℕ
histogram_lines name h =
    bucket_lines name 0 h.buckets.items
    ++ (name ++ (codes "_sum " ++ (decimal h.nanoseconds ++ (codes "e-9\n"
    ++ (name ++ (codes "_count " ++ (decimal (bucket_count 0 h.buckets.items) ++ codes "\n")))))))

-- the lines of the samples of a family
abbrev pub lines_of : Row → Values → List ℕ
lines_of r (One value) = r.name ++ (codes " " ++ (decimal value ++ codes "\n"))
lines_of r (Time nanoseconds) = r.name ++ (codes " " ++ (decimal nanoseconds ++ codes "e-9\n"))
lines_of r (Labelled samples) = flat_map (labelled_line r) samples.items
lines_of r (Histogram times) = histogram_lines r.name times

-- the samples of a family, if it has values
abbrev pub family_text : Row → Option Values → List ℕ
family_text r None = []
family_text r (Some values) = headed r (lines_of r values)

-- the samples of these families, each with its values
abbrev pub samples : List Row → List (Option Values) → List ℕ
samples [] vs = []
samples (r ∷ rs) [] = []
samples (r ∷ rs) (v ∷ vs) = family_text r v ++ samples rs vs

-- all metrics
unfoldable pub page : List (Option Values) → List ℕ
page values = samples families values
