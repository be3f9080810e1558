-- What a walk over written types has found so far.
use Rattle.std.proofs.Common.{◌≡◌, ℕ, ◌+◌, ◌<◌, ◌≤◌, List, [], ◌∷◌, ◌++◌, length, take, drop, get_or, Option, Some, None, map, refl, sym, ap, ◌∙◌, subst, arith}
use Rattle.std.specs.List.{flat_map, filter_map, cons_option}
use Rattle.std.proofs.lemmas.Grind.{flat_map-append}
use Rattle.std.proofs.lemmas.List.{append-nil, take_all}
use Rattle.std.proofs.lemmas.List.Elements.{filter_map-append}
use Rattle.flux_grammar.specs.declared.tree.TypeText.{TypeText}
use Rattle.flux_grammar.specs.declared.tree.ParamDef.{ParamDef}
use Rattle.flux_grammar.specs.declared.tree.ProcDef.{ProcDef}
use Rattle.flux_grammar.specs.declared.tree.Script.{Script}
use Rattle.flux_grammar.specs.declared.tree.TypeDef.{TypeDef}
use Rattle.flux_grammar.specs.NormalFaults.{first, mentions, unknown, written_in, written_types, output_types}
use Rattle.flux_schema.specs.Definitions.{declared_names}
use Rattle.flux_normal.specs.declared.walk.Question.{Question}
use Rattle.flux_normal.specs.declared.walk.Question.TheVariants.{Unknown, Big}
use Rattle.flux_normal.specs.Types.{all_unknown, if_big, Answers, AnswersAll}
use Rattle.flux_normal.specs.Written.{unknowns}
use Rattle.flux_normal.proofs.Firsts.{first_none, first_before, take_next, split_at, append_nil_left, append_nil_right}

all_append : (names : List ℕ) (ts us : List TypeText) → all_unknown names (ts ++ us) ≡ all_unknown names ts ++ all_unknown names us
all_append names ts us = ap (filter_map (unknown names)) (flat_map-append mentions ts us) ∙ filter_map-append (unknown names) _ _

first_of_one : (o : Option ℕ) → first (cons_option o []) ≡ o
first_of_one None = refl
first_of_one (Some x) = refl

first_none_more : (xs ys : List ℕ) → None ≡ first xs → first (xs ++ ys) ≡ first ys
first_none_more xs ys e = ap (λ zs. first (zs ++ ys)) (first_none xs (sym e))

pub all_none : (q : Question) → AnswersAll q [] None
all_none (Unknown known) = refl
all_none Big = λ names none. refl

pub some_more : (q : Question) (ts us : List TypeText) (p : ℕ) → AnswersAll q ts (Some p) → AnswersAll q (ts ++ us) (Some p)
some_more (Unknown known) ts us p h =
    let names = declared_names known.now in
    sym (ap first (all_append names ts us) ∙ first_before (all_unknown names ts) (all_unknown names us) p (sym h))
some_more Big ts us p h = λ names none.
    let fewer = append_nil_left _ _ (sym (all_append names ts us) ∙ none) in
    sym (ap first (filter_map-append (if_big names) ts us) ∙ first_before _ (filter_map (if_big names) us) p (sym (h names fewer)))

pub none_more : (q : Question) (ts us : List TypeText) (r : Option ℕ) → AnswersAll q ts None → AnswersAll q us r → AnswersAll q (ts ++ us) r
none_more (Unknown known) ts us r h g =
    let names = declared_names known.now in
    g ∙ sym (ap first (all_append names ts us) ∙ first_none_more (all_unknown names ts) (all_unknown names us) h)
none_more Big ts us r h g = λ names none.
    let both = sym (all_append names ts us) ∙ none in
    g names (append_nil_right _ _ both) ∙ sym (ap first (filter_map-append (if_big names) ts us) ∙ first_none_more _ (filter_map (if_big names) us) (h names (append_nil_left _ _ both)))

pub alone : (q : Question) (t : TypeText) (r : Option ℕ) → Answers q t r → AnswersAll q (t ∷ []) r
alone (Unknown known) t r h = h ∙ ap (λ ms. first (filter_map (unknown (declared_names known.now)) ms)) (sym (append-nil (mentions t)))
alone Big t r h = λ names none.
    h names (ap (filter_map (unknown names)) (sym (append-nil (mentions t))) ∙ none) ∙ sym (first_of_one (if_big names t))

pub in_one : (q : Question) (ts : List TypeText) (r : Option ℕ) → AnswersAll q ts r → AnswersAll q (ts ++ []) r
in_one q ts r h = subst (λ us. AnswersAll q us r) (sym (append-nil ts)) h

-- over lists of which each element has types
module _ {A : Type 0} (q : Question) (L : List A → List TypeText) (app : (xs ys : List A) → L (xs ++ ys) ≡ L xs ++ L ys) where
  pub walk_more : (xs : List A) (i : ℕ) (x : A) → i < length xs → x ≡ get_or xs i x → AnswersAll q (L (take i xs)) None → AnswersAll q (L (x ∷ [])) None → AnswersAll q (L (take (i + 1) xs)) None
  walk_more xs i x lt e h g =
      subst (λ us. AnswersAll q us None) (sym (ap L (take_next xs i x lt e) ∙ app (take i xs) (x ∷ []))) (none_more q (L (take i xs)) (L (x ∷ [])) None h g)

  pub walk_found : (xs : List A) (i : ℕ) (x : A) (p : ℕ) → i < length xs → x ≡ get_or xs i x → AnswersAll q (L (take i xs)) None → AnswersAll q (L (x ∷ [])) (Some p) → AnswersAll q (L xs) (Some p)
  walk_found xs i x p lt e h g =
      let rest = drop (i + 1) xs in
      let whole : L xs ≡ L (take i xs) ++ (L (x ∷ []) ++ L rest) =
      ap L (split_at xs i x lt e) ∙ app (take i xs) (x ∷ rest) ∙ ap (λ us. L (take i xs) ++ us) (app (x ∷ []) rest) in
      subst (λ us. AnswersAll q us (Some p)) (sym whole) (none_more q (L (take i xs)) (L (x ∷ []) ++ L rest) (Some p) h (some_more q (L (x ∷ [])) (L rest) p g))

  pub walk_all : (xs : List A) (i : ℕ) → length xs ≤ i → AnswersAll q (L (take i xs)) None → AnswersAll q (L xs) None
  walk_all xs i le h = subst (λ ys. AnswersAll q (L ys) None) (take_all i xs le) h

-- ---- a procedure

nothing_in : (q : Question) (ts : List TypeText) (r : Option ℕ) → r ≡ None → AnswersAll q ts r → AnswersAll q ts None
nothing_in q ts r e h = subst (λ o. AnswersAll q ts o) e h

params_of : (q : Question) (p : ProcDef) (us : List ParamDef) (r : Option ℕ) → us ≡ p.params → AnswersAll q (map (λ a. a.ty) us) r → AnswersAll q (map (λ a. a.ty) p.params) r
params_of q p us r e h = subst (λ (vs : List ParamDef). AnswersAll q (map (λ a. a.ty) vs) r) e h

pub in_params_of : (q : Question) (p : ProcDef) (us : List ParamDef) (n : ℕ) → us ≡ p.params → AnswersAll q (map (λ a. a.ty) us) (Some n) → AnswersAll q (written_in p) (Some n)
in_params_of q p us n e h = some_more q (map (λ a. a.ty) p.params) (p.focus ∷ p.result ∷ []) n (params_of q p us (Some n) e h)

pub in_focus_of : (q : Question) (p : ProcDef) (us : List ParamDef) (r : Option ℕ) (n : ℕ) → us ≡ p.params → r ≡ None → AnswersAll q (map (λ a. a.ty) us) r → AnswersAll q (p.focus ∷ []) (Some n) → AnswersAll q (written_in p) (Some n)
in_focus_of q p us r n e f h g =
    none_more q (map (λ a. a.ty) p.params) (p.focus ∷ p.result ∷ []) (Some n) (nothing_in q _ r f (params_of q p us r e h)) (some_more q (p.focus ∷ []) (p.result ∷ []) n g)

pub in_result_of : (q : Question) (p : ProcDef) (us : List ParamDef) (r s t : Option ℕ) → us ≡ p.params → r ≡ None → s ≡ None → AnswersAll q (map (λ a. a.ty) us) r → AnswersAll q (p.focus ∷ []) s → AnswersAll q (p.result ∷ []) t → AnswersAll q (written_in p) t
in_result_of q p us r s t e f g h i j =
    none_more q (map (λ a. a.ty) p.params) (p.focus ∷ p.result ∷ []) t (nothing_in q _ r f (params_of q p us r e h)) (none_more q (p.focus ∷ []) (p.result ∷ []) t (nothing_in q _ s g i) j)

-- ---- a script

abbrev pub definition_types : List TypeDef → List TypeText
definition_types ds = map (λ d. d.body) ds

definitions_of : (q : Question) (s : Script) (ds : List TypeDef) (r : Option ℕ) → ds ≡ s.types → AnswersAll q (definition_types ds) r → AnswersAll q (definition_types s.types) r
definitions_of q s ds r e h = subst (λ (es : List TypeDef). AnswersAll q (definition_types es) r) e h

procs_of : (q : Question) (s : Script) (ps : List ProcDef) (r : Option ℕ) → ps ≡ s.procs → AnswersAll q (flat_map written_in ps) r → AnswersAll q (flat_map written_in s.procs) r
procs_of q s ps r e h = subst (λ (os : List ProcDef). AnswersAll q (flat_map written_in os) r) e h

-- in definitions and procedures
before_input : (q : Question) (s : Script) (ds : List TypeDef) (ps : List ProcDef) (a b : Option ℕ) → ds ≡ s.types → a ≡ None → AnswersAll q (definition_types ds) a → ps ≡ s.procs → AnswersAll q (flat_map written_in ps) b → AnswersAll q (definition_types s.types ++ flat_map written_in s.procs) b
before_input q s ds ps a b e f h i j =
    none_more q (definition_types s.types) (flat_map written_in s.procs) b (nothing_in q _ a f (definitions_of q s ds a e h)) (procs_of q s ps b i j)

pub in_definitions_of : (q : Question) (s : Script) (ds : List TypeDef) (n : ℕ) → ds ≡ s.types → AnswersAll q (definition_types ds) (Some n) → AnswersAll q (written_types s) (Some n)
in_definitions_of q s ds n e h =
    some_more q (definition_types s.types ++ flat_map written_in s.procs) (s.input ∷ output_types s.output) n
    (some_more q (definition_types s.types) (flat_map written_in s.procs) n (definitions_of q s ds (Some n) e h))

pub in_procs_of : (q : Question) (s : Script) (ds : List TypeDef) (ps : List ProcDef) (a : Option ℕ) (n : ℕ) → ds ≡ s.types → a ≡ None → AnswersAll q (definition_types ds) a → ps ≡ s.procs → AnswersAll q (flat_map written_in ps) (Some n) → AnswersAll q (written_types s) (Some n)
in_procs_of q s ds ps a n e f h i j =
    some_more q (definition_types s.types ++ flat_map written_in s.procs) (s.input ∷ output_types s.output) n (before_input q s ds ps a (Some n) e f h i j)

pub in_input_of : (q : Question) (s : Script) (ds : List TypeDef) (ps : List ProcDef) (a b : Option ℕ) (n : ℕ) → ds ≡ s.types → a ≡ None → AnswersAll q (definition_types ds) a → ps ≡ s.procs → b ≡ None → AnswersAll q (flat_map written_in ps) b → AnswersAll q (s.input ∷ []) (Some n) → AnswersAll q (written_types s) (Some n)
in_input_of q s ds ps a b n e f h i j k l =
    none_more q (definition_types s.types ++ flat_map written_in s.procs) (s.input ∷ output_types s.output) (Some n) (nothing_in q _ b j (before_input q s ds ps a b e f h i k))
    (some_more q (s.input ∷ []) (output_types s.output) n l)

pub in_output_of : (q : Question) (s : Script) (ds : List TypeDef) (ps : List ProcDef) (a b c r : Option ℕ) → ds ≡ s.types → a ≡ None → AnswersAll q (definition_types ds) a → ps ≡ s.procs → b ≡ None → AnswersAll q (flat_map written_in ps) b → c ≡ None → AnswersAll q (s.input ∷ []) c → AnswersAll q (output_types s.output) r → AnswersAll q (written_types s) r
in_output_of q s ds ps a b c r e f h i j k l m o =
    none_more q (definition_types s.types ++ flat_map written_in s.procs) (s.input ∷ output_types s.output) r (nothing_in q _ b j (before_input q s ds ps a b e f h i k))
    (none_more q (s.input ∷ []) (output_types s.output) r (nothing_in q _ c l m) o)
