-- What several alternatives of the grammar share, each as what is read and goes on.
use Rattle.std.specs.Prelude.{ℕ}
use Rattle.flux_grammar.specs.declared.lexeme.Keyword.TheVariants as key
use Rattle.flux_grammar.specs.declared.lexeme.Lexeme.TheVariants.{Reserved, Sign}
use Rattle.flux_grammar.specs.declared.lexeme.Sign.TheVariants as sign
use Rattle.flux_grammar.specs.declared.tree.Expr.{Expr}
use Rattle.flux_grammar.specs.declared.tree.Path.{Path}
use Rattle.flux_grammar.specs.declared.tree.QueryStep.{QueryStep}
use Rattle.flux_grammar.specs.Grammar.{path, expr, qstep}
use Rattle.flux_grammar.specs.Machine.{take, call}
use Rattle.flux_syntax.specs.Parses.{Reading}

-- `/` and what may stand behind it
abbrev pub slash_step : ℕ → Reading QueryStep
slash_step from k = take (Sign sign.Slash) (λ x. call (qstep from) k)

-- a path, `VALUE` or `WITH`, and a query
abbrev pub path_and_value : ℕ → Reading (Path × Expr)
path_and_value d k =
    call (path d) (λ p. take (Reserved key.Value) (λ y. call (expr d) (λ q. k (p, q))))

abbrev pub path_and_other : ℕ → Reading (Path × Expr)
path_and_other d k =
    call (path d) (λ p. take (Reserved key.With) (λ y. call (expr d) (λ q. k (p, q))))
