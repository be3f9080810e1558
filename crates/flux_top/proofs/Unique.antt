-- Two answers are one.
use Rattle.std.proofs.Common.{◌≡◌, ◌⊎◌, ◌<◌, ◌≤◌, ◌∙◌, inl, inr, refl, ap, ap₂, sym, subst, ℕ, Bool, true, false, ◌==◌, List, [], ◌∷◌, ◌++◌, length, drop, map, Option, Some, None, if◌then◌else◌, arith}
use Rattle.std.specs.Prelude.{IsSomeAnd, slice_get, unwrap_or}
use Rattle.std.proofs.lemmas.Bool.{cases_lt}
use Rattle.std.proofs.lemmas.Bool.Decides.{Decides-eqb, same_from_decides}
use Rattle.flux_io.specs.Outside.{Held}
use Rattle.flux_atom.specs.Names.{IsLabel, IsTable}
use Rattle.flux_trees.specs.Hedge.{Plain}
use Rattle.flux_trees.specs.Each.{EachLabel}
use Rattle.flux_doctext.specs.Text.{text, name_text, NamesLabel}
use Rattle.flux_doctext.proofs.Alike.{Alike, alike_nil, alike_elem, alike_leaf, alike_join, alike_text}
use Rattle.flux_doctext.proofs.TextLaws.{NamesLabel-found, NamesLabel-label}
use Rattle.flux_doctext.specs.Spells.{Spells, IsViable}
use Rattle.flux_doctext.specs.Documents.{IsNoDocument}
use Rattle.flux_doctext.proofs.LabelLaws.{spelled_over}
use Rattle.flux_top.proofs.Spelled.{spelled_alike}
use Rattle.flux_top.proofs.Scripts.{no_fault, fault_line_one, tree_one, deletes_or_none, steps_one, steps_some, longest_one}
use Rattle.flux_calculus.specs.Derives.{Derives}
use Rattle.flux_top.specs.Paths.{standard, delete_on}
use Rattle.flux_calculus.proofs.Agree.{derives_one}
use Rattle.flux_calculus.specs.Core.{Normal}
use Rattle.flux_grammar.specs.declared.tree.Script.{Script}
use Rattle.flux_grammar.specs.NormalFaults.{HasNoFault}
use Rattle.flux_grammar.specs.NormalForm.{IsNormalForm}
use Rattle.flux_grammar.proofs.OneForm.{one_form}
use Rattle.flux_report.specs.CoreText.{core_text}
use Rattle.flux_report.specs.Lines.{script_text}
use Rattle.flux_top.specs.Script.{script_limit, IsScriptOf, IsScriptFault, IsNormalScript, DeletesPath}
use Rattle.flux_top.specs.Answer.{Answer, usage, faulty_script, core_script, other_script, long_document, no_forest, no_forest_line, done}
use Rattle.flux_top.specs.Unique.{AnswerIsUnique}
use Rattle.flux_top.specs.declared.status.Status.{Status}
use Rattle.flux_top.proofs.Pruned.{pruned_element, pruned, pruned_derives}
use Rattle.flux_top.proofs.Asked.{no_form, one_kind, script_one, document_one, asks_path, faulty_asks}

-- only a label of the table has the text of a label
label_named : (names : List (List ℕ)) (a : ℕ) → IsLabel (name_text names a) → NamesLabel names a
label_named names a label = by (slice_get names a) label
  where
    by : (found : Option (List ℕ)) → IsLabel (unwrap_or found []) → IsSomeAnd found IsLabel
    by None is = absurd is.0
    by (Some t) is = is

-- paths over two tables, with the same texts
data AlikePath (names others : List (List ℕ)) : List ℕ → List ℕ → Type 0 where
  path_nil : AlikePath names others [] []
  path_step : {n m : ℕ} {path other : List ℕ} → name_text names n ≡ name_text others m → AlikePath names others path other → AlikePath names others (n ∷ path) (m ∷ other)

path_alike : (names others : List (List ℕ)) (path other : List ℕ) → map (name_text names) path ≡ map (name_text others) other → AlikePath names others path other
path_alike names others [] [] e = path_nil
path_alike names others [] (m ∷ other) e = absurd cc
path_alike names others (n ∷ path) [] e = absurd cc
path_alike names others (n ∷ path) (m ∷ other) e =
    path_step (first_text (name_text names n) (name_text others m) (map (name_text names) path) (map (name_text others) other) e) (path_alike names others path other (rest_texts (name_text names n) (name_text others m) (map (name_text names) path) (map (name_text others) other) e))
  where
    first_text : (t u : List ℕ) (ts us : List (List ℕ)) → t ∷ ts ≡ u ∷ us → t ≡ u
    first_text t u ts us e = cc

    rest_texts : (t u : List ℕ) (ts us : List (List ℕ)) → t ∷ ts ≡ u ∷ us → ts ≡ us
    rest_texts t u ts us e = cc

-- a number with the text of a label is that label
label_one : (names others : List (List ℕ)) (a n b m : ℕ) → IsTable names → NamesLabel names a → name_text names a ≡ name_text others b → name_text names n ≡ name_text others m → b ≡ m → a ≡ n
label_one names others a n b m table is label same e =
    let texts : name_text names a ≡ name_text names n = label ∙ ap (name_text others) e ∙ sym same in
    let other = label_named names n (subst IsLabel texts (NamesLabel-label names a is)) in
    table.differ a n (name_text names a) (NamesLabel-found names a is) (NamesLabel-found names n other ∙ ap Some (sym texts))

module _ (names others : List (List ℕ)) (table : IsTable names) (other_table : IsTable others) where
  -- a test of the labels has one result
  test_one : (a n b m : ℕ) → NamesLabel names a → NamesLabel others b → name_text names a ≡ name_text others b → name_text names n ≡ name_text others m → (a == n) ≡ (b == m)
  test_one a n b m is are label same =
      let there = λ (e : a ≡ n). (Decides-eqb b m).1 (label_one others names b m a n other_table are (sym label) (sym same) e) in
      let back = λ (e : (b == m) ≡ true). label_one names others a n b m table is label same ((Decides-eqb b m).0 e) in
      same_from_decides (a == n) (b == m) (Decides-eqb a n) (back, there)

  branch_alike : {s t v w : Plain} (x y : Bool) → x ≡ y → Alike names others s t → Alike names others v w → Alike names others (if x then s else v) (if y then t else w)
  branch_alike true true e first second = first
  branch_alike true false e first second = absurd cc
  branch_alike false true e first second = absurd cc
  branch_alike false false e first second = second

  element_alike : {path other : List ℕ} (a b : ℕ) {c d i j : Plain} → AlikePath names others path other → NamesLabel names a → NamesLabel others b → name_text names a ≡ name_text others b → Alike names others c d → Alike names others i j
      → Alike names others (pruned_element path a c i) (pruned_element other b d j)
  element_alike a b path_nil is are label inside inner = alike_elem label inside alike_nil
  element_alike a b (path_step {n} {m} same path_nil) is are label inside inner =
      branch_alike (a == n) (b == m) (test_one a n b m is are label same) alike_nil (alike_elem label inside alike_nil)
  element_alike a b (path_step {n} {m} same (path_step more rest)) is are label inside inner =
      branch_alike (a == n) (b == m) (test_one a n b m is are label same) (alike_elem label inner alike_nil) (alike_elem label inside alike_nil)

  inner_path : {path other : List ℕ} → AlikePath names others path other → AlikePath names others (drop 1 path) (drop 1 other)
  inner_path path_nil = path_nil
  inner_path (path_step same rest) = rest

  -- forests that are alike stay so without what stands on the path
  pruned_alike : {path other : List ℕ} {v w : Plain} → AlikePath names others path other → Alike names others v w → EachLabel (NamesLabel names) v → EachLabel (NamesLabel others) w → Alike names others (pruned path v) (pruned other w)
  pruned_alike path alike_nil k l = alike_nil
  pruned_alike path (alike_elem {a} {b} label inside rest) k l =
      alike_join (element_alike a b path k.0 l.0 label inside (pruned_alike (inner_path path) inside k.1 l.1)) (pruned_alike path rest k.2 l.2)
  pruned_alike path (alike_leaf atom rest) k l = alike_leaf atom (pruned_alike path rest k l)

-- the text of the result is one, whatever the tables are
result_one : (names others : List (List ℕ)) (path other : List ℕ) (script document : List ℕ) (v v' w w' : Plain) → DeletesPath script (map (name_text names) path) → DeletesPath script (map (name_text others) other)
    → Spells names document v → Spells others document v' → Derives [] standard [] v (delete_on path) w → Derives [] standard [] v' (delete_on other) w' → text names w ≡ text others w'
result_one names others path other script document v v' w w' is are spelled other_spelled derived other_derived =
    let forests = spelled_alike names others document v v' spelled other_spelled in
    let paths = path_alike names others path other (steps_one script _ _ is are) in
    let left : w ≡ pruned path v = derives_one derived (pruned_derives [] standard [] path (steps_some script names path is) v) in
    let right : w' ≡ pruned other v' = derives_one other_derived (pruned_derives [] standard [] other (steps_some script others other are) v') in
    let results = pruned_alike names others spelled.table other_spelled.table paths forests (spelled_over names document v spelled).labels (spelled_over others document v' other_spelled).labels in
    ap (text names) left ∙ alike_text results ∙ sym (ap (text others) right)

-- so is the text of a script in the core language
core_one : (script : List ℕ) (t u : Script) (texts others : List (List ℕ)) (n m : Normal) → IsNormalScript script t texts n → IsNormalScript script u others m → core_text texts n ≡ core_text others m
core_one script t u texts others n m is are =
    let one = tree_one script t u texts others is.reads are.reads in
    ap₂ core_text one.1 (one_form u n m (subst (λ s. IsNormalForm s n) one.0 is.form) are.form)

module _ (held : Held) (words : List (List ℕ)) where
  -- how far the run comes before its answer
  abbrev reached : {s : Status} {o l : List ℕ} → Answer held words s o l → ℕ
  reached (usage _) = 0
  reached (faulty_script _ _ _) = 1
  reached (core_script _ _) = 2
  reached (other_script _ _ _ _ _) = 3
  reached (long_document _ _ _) = 4
  reached (no_forest _ _ _ _) = 5
  reached (done _ _ _ _ _ _) = 6

  -- what ends a run leaves no later answer
  none_later : {s t : Status} {o p l m : List ℕ} (a : Answer held words s o l) (b : Answer held words t p m) → reached a < reached b → ⊥
  none_later (usage none) (faulty_script _ named _) later = no_form held words _ named.form_is none
  none_later (usage none) (core_script named _) later = no_form held words _ named.form_is none
  none_later (usage none) (other_script named _ _ _ _) later = no_form held words _ named.form_is none
  none_later (usage none) (long_document asked _ _) later = no_form held words _ asked.named.form_is none
  none_later (usage none) (no_forest asked _ _ _) later = no_form held words _ asked.named.form_is none
  none_later (usage none) (done _ asked _ _ _ _) later = no_form held words _ asked.named.form_is none
  none_later (faulty_script {script = script} fault named is) (core_script {script = other} {tree} {texts} again normal) later =
      let same = script_one held words other script again named in
      no_fault script fault tree texts is (subst (λ s. length s ≤ script_limit) same normal.within) (subst (λ s. IsScriptOf s tree texts) same normal.reads) normal.no_fault
  none_later (faulty_script {script = script} fault named is) (other_script {script = other} {tree} {texts} again short reads clear _) later =
      let same = script_one held words other script again named in
      no_fault script fault tree texts is (subst (λ s. length s ≤ script_limit) same short) (subst (λ s. IsScriptOf s tree texts) same reads) clear
  none_later (faulty_script {script = script} fault named is) (long_document asked _ _) later = faulty_asks held words script fault named is asked
  none_later (faulty_script {script = script} fault named is) (no_forest asked _ _ _) later = faulty_asks held words script fault named is asked
  none_later (faulty_script {script = script} fault named is) (done _ asked _ _ _ _) later = faulty_asks held words script fault named is asked
  none_later (core_script named _) (other_script again _ _ _ _) later = one_kind held words _ _ _ named.form_is again.form_is
  none_later (core_script named _) (long_document asked _ _) later = one_kind held words _ _ _ named.form_is asked.named.form_is
  none_later (core_script named _) (no_forest asked _ _ _) later = one_kind held words _ _ _ named.form_is asked.named.form_is
  none_later (core_script named _) (done _ asked _ _ _ _) later = one_kind held words _ _ _ named.form_is asked.named.form_is
  none_later (other_script {script = script} {tree} {texts} named _ reads _ none) (long_document asked _ _) later = deletes_or_none script tree texts _ reads none (asks_path held words script asked named)
  none_later (other_script {script = script} {tree} {texts} named _ reads _ none) (no_forest asked _ _ _) later = deletes_or_none script tree texts _ reads none (asks_path held words script asked named)
  none_later (other_script {script = script} {tree} {texts} named _ reads _ none) (done _ asked _ _ _ _) later = deletes_or_none script tree texts _ reads none (asks_path held words script asked named)
  none_later (long_document {document} _ named long) (no_forest {document = other} _ again short _) later =
      omega (arith, long, short, ap length (document_one held words document other named again))
  none_later (long_document {document} _ named long) (done {document = other} _ _ again short _ _) later =
      omega (arith, long, short, ap length (document_one held words document other named again))
  none_later (no_forest {document} _ named _ wrong) (done {document = other} {names} _ {v} _ again _ spelled _) later =
      wrong.spells_none names v (subst (λ d. Spells names d v) (document_one held words other document again named) spelled)
  none_later (done _ _ _ _ _ _) (usage _) later = omega (arith, later)
  none_later _ _ later = omega (arith, later)

  both_reach : {s t : Status} {o p l m : List ℕ} (a : Answer held words s o l) (b : Answer held words t p m) → reached a ≡ reached b
  both_reach a b = by (cases_lt (reached a) (reached b)) (cases_lt (reached b) (reached a))
    where
      by : (reached a < reached b) ⊎ (reached b ≤ reached a) → (reached b < reached a) ⊎ (reached a ≤ reached b) → reached a ≡ reached b
      by (inl later) _ = absurd (none_later a b later)
      by (inr _) (inl later) = absurd (none_later b a later)
      by (inr first) (inr second) = omega (arith, first, second)

  same_answer : {s t : Status} {o p l m : List ℕ} (a : Answer held words s o l) (b : Answer held words t p m) → reached a ≡ reached b → (s ≡ t) × (o ≡ p) × (l ≡ m)
  same_answer (usage _) (usage _) same = (refl, refl, refl)
  same_answer (faulty_script {script = script} fault named is) (faulty_script {script = again} other other_named are) same =
      let are_again = subst (λ s. IsScriptFault s other) (script_one held words again script other_named named) are in
      let lines = fault_line_one script fault other is are_again in
      (refl, refl, lines ∙ ap (λ s. script_text s other) (script_one held words script again named other_named))
  same_answer (core_script {script = script} {tree} {texts} {normal} named is) (core_script {script = again} {tree = t} {texts = others} {normal = m} other_named are) same =
      let are_again = subst (λ s. IsNormalScript s t others m) (script_one held words again script other_named named) are in
      (refl, core_one script tree t texts others normal m is are_again, refl)
  same_answer (other_script _ _ _ _ _) (other_script _ _ _ _ _) same = (refl, refl, refl)
  same_answer (long_document _ _ _) (long_document _ _ _) same = (refl, refl, refl)
  same_answer (no_forest {document} {place} _ named _ wrong) (no_forest {document = again} {place = other} _ other_named _ other_wrong) same =
      let documents = document_one held words document again named other_named in
      let places = longest_one IsViable document place other wrong.longest (subst (λ d. IsNoDocument d other) (sym documents) other_wrong).longest in
      (refl, refl, ap₂ no_forest_line documents places)
  same_answer (done {document} {names} path {v} {w} asked named _ spelled derived) (done {document = again} {names = others} other {v = v'} {w = w'} other_asked other_named _ other_spelled other_derived) same =
      let spelled_again = subst (λ d. Spells others d v') (document_one held words again document other_named named) other_spelled in
      let deletes_again = asks_path held words asked.script other_asked asked.named in
      let texts = result_one names others path other asked.script document v v' w w' asked.deletes deletes_again spelled spelled_again derived other_derived in
      (refl, ap (λ t. t ++ 10 ∷ []) texts, refl)
  same_answer _ _ same = absurd (omega (arith, same))

pub answer_one : AnswerIsUnique
answer_one held words s t o p l m a b = same_answer held words a b (both_reach held words a b)
