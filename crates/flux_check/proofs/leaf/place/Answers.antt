use Rattle.std.proofs.Common.{refl, inl, inr}
use Rattle.flux_querytype.proofs.Queries.{place_of_concat, place_of_other}
use Rattle.flux_query.proofs.Variants.{of_elem, of_lit, of_var, of_let, of_if, of_same, of_less, of_child, of_filter, of_for}
use Rattle.flux_check.proofs.leaf.place.Goals as goal

pub returns : goal.returns
returns c =
    let x = c.args.query.now in
    let s = c.in-Concat.span in
    elim c.in-Concat.is [
      | inl p ↦ place_of_concat x p.0 s p.1
      | inr q0 ↦ elim q0 [
        | inl p ↦ place_of_other x _ s.from (of_elem x p.0 p.1 p.1 s p.2 refl) refl
        | inr q1 ↦ elim q1 [
          | inl p ↦ place_of_other x _ s.from (of_lit x p.0 s p.1) refl
          | inr q2 ↦ elim q2 [
            | inl p ↦ place_of_other x _ s.from (of_var x p.0 s p.1) refl
            | inr q3 ↦ elim q3 [
              | inl p ↦ place_of_other x _ s.from (of_let x p.0 p.1 p.2 p.1 p.2 s p.3 refl refl) refl
              | inr q4 ↦ elim q4 [
                | inl p ↦ place_of_other x _ s.from (of_if x p.0 p.1 p.2 p.0 p.1 p.2 s p.3 refl refl refl) refl
                | inr q5 ↦ elim q5 [
                  | inl p ↦ place_of_other x _ s.from (of_same x p.0 p.1 p.0 p.1 s p.2 refl refl) refl
                  | inr q6 ↦ elim q6 [
                    | inl p ↦ place_of_other x _ s.from (of_less x p.0 p.1 p.0 p.1 s p.2 refl refl) refl
                    | inr q7 ↦ elim q7 [
                      | inl p ↦ place_of_other x _ s.from (of_child x p.0 s p.1) refl
                      | inr q8 ↦ elim q8 [
                        | inl p ↦ place_of_other x _ s.from (of_filter x p.0 p.0 p.1 s p.2 refl) refl
                        | inr q9 ↦ place_of_other x _ s.from (of_for x q9.0 q9.1 q9.2 q9.1 q9.2 s q9.3 refl refl) refl
                      ]
                    ]
                  ]
                ]
              ]
            ]
          ]
        ]
      ]
    ]
