use Rattle.std.proofs.Common.{◌∙◌, ◌==◌, length, map, sym, ap}
use Rattle.std.proofs.lemmas.List.{length-map}
use Rattle.flux_query.specs.Read.{query_of}
use Rattle.flux_query.proofs.Variants.{of_concat}
use Rattle.flux_report.specs.CoreText.{is_nothing}
use Rattle.flux_report.proofs.Texts.{nothing_listed}
use Rattle.flux_report.proofs.queries.is_nothing.Goals as goal

pub returns-in-Concat : goal.returns-in-Concat
returns-in-Concat c =
    nothing_listed c.in-Concat.field-1 (map query_of c.in-Concat.queries) c.is_empty.result
    (c.is_empty.ensures ∙ ap (λ l. length l == 0) c.as_slice.ensures ∙ ap (λ n. n == 0) (sym (length-map c.in-Concat.queries query_of)))
    ∙ ap is_nothing (sym (of_concat _ c.in-Concat.queries c.in-Concat.field-1 c.in-Concat.is))
