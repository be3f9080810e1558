-- What a script that was read gives, and why one is refused.
use Rattle.std.proofs.Common.{◌≡◌, ◌⊎◌, ◌∙◌, inl, inr, refl, ap, sym, subst, ℕ, List, [], map, Result, Ok, Err}
use Rattle.std.specs.Prelude.{IfOk, IfErr}
use Rattle.flux_atom.specs.Names.{name_text}
use Rattle.flux_grammar.specs.declared.token.Token.{Token}
use Rattle.flux_grammar.specs.declared.tree.Script.{Script}
use Rattle.flux_grammar.specs.Grammar.{script}
use Rattle.flux_grammar.specs.NormalFaults.{HasNoFault}
use Rattle.flux_grammar.specs.Tokens.{AreTokens}
use Rattle.flux_syntax.specs.declared.trees.SynFault.{SynFault}
use Rattle.flux_syntax.specs.declared.trees.SynFault.TheVariants.{Syntax}
use Rattle.flux_syntax.specs.Learnt.{learnt}
use Rattle.flux_syntax.specs.Trees.{IsSynFault, Learns}
use Rattle.flux_report.specs.declared.line.ScriptFault.{ScriptFault}
use Rattle.flux_report.specs.Lines.{script_text}
use Rattle.flux_top.specs.Script.{IsScriptOf, HasNoReading, IsScriptFault, IsDeletion, DeletesNone, DeletesPath}
use Rattle.flux_top.specs.Prepare.{Tells, IsScriptRefusal, IsDeletionRefusal}
use Rattle.flux_top.specs.declared.refusal.Refusal.{Refusal}
use Rattle.flux_top.specs.declared.refusal.Refusal.TheVariants.{FaultyScript, OtherScript, NoMemory}

pub ok_more : {A E : Type 0} (P Q : A → Type 0) → ((a : A) → P a → Q a) → (r : Result A E) → IfOk r P → IfOk r Q
ok_more P Q more (Ok a) is = more a is
ok_more P Q more (Err e) is = tt

pub deletes : (bytes : List ℕ) (tree : Script) (texts : List (List ℕ)) (path : List ℕ) → IsScriptOf bytes tree texts → HasNoFault tree → IsDeletion tree path → DeletesPath bytes (map (name_text texts) path)
deletes bytes tree texts path reads clear is =
    record {
      tree = tree;
      texts = texts;
      path = path;
      reads = reads;
      no_fault = clear;
      deletion = is;
      steps_are = refl;
    }

-- a refusal that tells a fault of the script
pub refused_so : (bytes : List ℕ) (fault : ScriptFault) (r : Refusal) → IsScriptFault bytes fault → Tells r (script_text bytes fault) → IsScriptRefusal bytes r
refused_so bytes fault (FaultyScript line) is tells = (fault, is, tells)
refused_so bytes fault NoMemory is tells = tt
refused_so bytes fault _ is tells = absurd tells

-- the script deletes no path
pub refused_other : {A : Type 0} (bytes : List ℕ) (tree : Script) (texts : List (List ℕ)) → IsScriptOf bytes tree texts → HasNoFault tree → (r : Result A Refusal) → IfErr r (λ refusal. (refusal ≡ NoMemory) ⊎ ((refusal ≡ OtherScript) × DeletesNone tree)) → IfErr r (IsDeletionRefusal bytes)
refused_other bytes tree texts reads clear (Ok a) is = tt
refused_other bytes tree texts reads clear (Err e) (inl no_memory) = subst (IsDeletionRefusal bytes) (sym no_memory) (inr tt)
refused_other bytes tree texts reads clear (Err e) (inr (other, none)) = subst (IsDeletionRefusal bytes) (sym other) (inr (tree, texts, reads, clear, none))

-- the tokens have no reading
pub no_reading : (bytes : List ℕ) (tokens : List Token) (old new : List (List ℕ)) (fault : SynFault) (place : ℕ) → AreTokens bytes tokens → old ≡ [] → fault ≡ Syntax place → IsSynFault script new bytes tokens fault → Learns {A = Script} (learnt bytes tokens old) new (Err fault) → HasNoReading bytes place
no_reading bytes tokens old new fault place are empty is none learns =
    let same : new ≡ learnt bytes tokens [] = subst (λ f. Learns {A = Script} (learnt bytes tokens old) new (Err f)) is learns ∙ ap (learnt bytes tokens) empty in
    record { tokens = tokens; are = are; misfit = subst (λ l. IsSynFault script l bytes tokens (Syntax place)) same (subst (IsSynFault script new bytes tokens) is none) }

pub err_more : {A E : Type 0} (P Q : E → Type 0) → ((e : E) → P e → Q e) → (r : Result A E) → IfErr r P → IfErr r Q
err_more P Q more (Ok a) is = tt
err_more P Q more (Err e) is = more e is

pub ok_any : {A E : Type 0} (X : Type 0) → X → (r : Result A E) → IfOk r (λ a. X)
ok_any X x (Ok a) = x
ok_any X x (Err e) = tt
