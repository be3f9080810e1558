-- Names that get their bodies one behind the other.
use Rattle.std.proofs.Common.{◌≡◌, ℕ, zero, suc, ◌+◌, ◌<◌, ◌≤◌, ◌&&◌, Bool, true, false, cond, ltb, List, [], ◌∷◌, ◌++◌, length, take, drop, get_or, Option, Some, None, map, refl, sym, ap, ap₂, ◌∙◌, subst, arith, add-one, length-take, append_assoc}
use Rattle.std.specs.List.{AllZip, flat_map, filter_map, cons_option, slice_get}
use Rattle.std.specs.Option.{option_map}
use Rattle.std.proofs.lemmas.Bool.{ltb-true}
use Rattle.std.proofs.lemmas.List.{take_all, drop_all, map-append, length-map, append-nil}
use Rattle.std.proofs.lemmas.List.Elements.{filter_map-append}
use Rattle.flux_calculus.specs.Typing.{is_within}
use Rattle.flux_grammar.specs.declared.tree.Script.{Script}
use Rattle.flux_grammar.specs.declared.tree.TypeDef.{TypeDef}
use Rattle.flux_grammar.specs.declared.tree.TypeText.{TypeText}
use Rattle.flux_grammar.specs.NormalFaults.{mentions, unknown, unless_within, written_in, output_types, written_types, unknown_types, big_types, declarations}
use Rattle.flux_grammar.specs.NormalForm.{type_names, IsDefinitionOf}
use Rattle.flux_grammar.specs.Spans.{type_span}
use Rattle.flux_grammar.specs.TypeOf.{type_in}
use Rattle.flux_schema.specs.Definitions.{Definitions, Declared, Declarations, declared_names, as_declared, with_body, declared_body, body_of, ReachesItself, Reaches, IsFirst}
use Rattle.flux_schema.specs.Ty.{Ty, size, height}
use Rattle.flux_types.proofs.KeptLaws.{names-with_body, body-kept, reaches_along}
use Rattle.flux_normal.specs.declared.fault.NormFault.{NormFault}
use Rattle.flux_normal.specs.declared.fault.NormFault.TheVariants.{Duplicate, UnknownType, BigType, Unguarded, UnknownProc, Arity, TooNested, Memory}
use Rattle.flux_normal.specs.Types.{all_unknown, if_big, with_type, IsFine, AreFine, IsMade, IsPlaceOf, IsCyclic}
use Rattle.flux_normal.specs.Written.{IsTypeOf}
use Rattle.flux_normal.proofs.Firsts.{append_nil_left, append_nil_right, take_next}

-- ---- types without a fault

no_option : (o : Option ℕ) (xs : List ℕ) → cons_option o xs ≡ [] → (o ≡ None) × (xs ≡ [])
no_option None xs e = (refl, e)
no_option (Some x) xs e = absurd (cc)

pub all_fine : (names : List ℕ) (ts : List TypeText) → all_unknown names ts ≡ [] → filter_map (if_big names) ts ≡ [] → AreFine names ts
all_fine names [] e f = tt
all_fine names (t ∷ ts) e f =
    let split = sym (filter_map-append (unknown names) (mentions t) (flat_map mentions ts)) ∙ e in
    let rest = no_option (if_big names t) (filter_map (if_big names) ts) f in
    (record { known = append_nil_left _ _ split; within = rest.0 }, all_fine names ts (append_nil_right _ _ split) rest.1)

pub fine_before : (names : List ℕ) (ts us : List TypeText) → AreFine names (ts ++ us) → AreFine names ts
fine_before names [] us h = tt
fine_before names (t ∷ ts) us h = (h.0, fine_before names ts us h.1)

pub fine_at : (names : List ℕ) (ds : List TypeDef) (i : ℕ) (d : TypeDef) → i < length ds → d ≡ get_or ds i d → AreFine names (map (λ e. e.body) ds) → IsFine names d.body
fine_at names [] i d lt e h = absurd (omega arith)
fine_at names (c ∷ ds) zero d lt e h = subst (λ (x : TypeDef). IsFine names x.body) (sym e) h.0
fine_at names (c ∷ ds) (suc i) d lt e h = fine_at names ds i d (omega arith) e h.1

pub script_fine : (s : Script) (names : List ℕ) → names ≡ type_names s → unknown_types s ≡ [] → big_types s ≡ [] → AreFine names (written_types s)
script_fine s names e u b = subst (λ ns. AreFine ns (written_types s)) (sym e) (all_fine (type_names s) (written_types s) u b)

pub bodies_fine : (s : Script) (names : List ℕ) (ds : List TypeDef) → names ≡ type_names s → ds ≡ s.types → unknown_types s ≡ [] → big_types s ≡ [] → AreFine names (map (λ d. d.body) ds)
bodies_fine s names ds e same u b =
    let bodies = map (λ (d : TypeDef). d.body) s.types in
    let procs = flat_map written_in s.procs in
    let front = fine_before names (bodies ++ procs) (s.input ∷ output_types s.output) (script_fine s names e u b) in
    subst (λ (xs : List TypeDef). AreFine names (map (λ d. d.body) xs)) (sym same) (fine_before names bodies procs front)

both_true : (a b : Bool) → (a && b) ≡ true → (a ≡ true) × (b ≡ true)
both_true true b e = (refl, e)
both_true false b e = absurd (cc)

within_true : (b : Bool) (at : ℕ) → cond b None (Some at) ≡ None → b ≡ true
within_true true at e = refl
within_true false at e = absurd (cc)

pub made_fine : (names : List ℕ) (t : TypeText) (u : Ty) → IsFine names t → IsTypeOf (length names) (type_in names t) u → IsMade names (type_in names t) u
made_fine names t u h g =
    let one : unless_within (type_span t).from (Some u) ≡ None = ap (unless_within (type_span t).from) (sym g.same) ∙ h.within in
    let two = both_true (ltb (size u) 65537) (ltb (height u) 501) (within_true (is_within u) (type_span t).from one) in
    record {
      ty = g;
      limits = record { nodes = omega (arith, ltb-true (size u) 65537 two.0); levels = omega (arith, ltb-true (height u) 501 two.1) };
    }

-- ---- bodies

-- the first i have their bodies
pub record AreDefined (ds : List TypeDef) (old now : Declarations) (i : ℕ) : Type 0 where
  pub made : now ≡ map (with_type (declared_names old)) (take i ds) ++ drop i old
  pub names : declared_names now ≡ declared_names old

pub none_defined : (ds : List TypeDef) (old now : Declarations) → now ≡ old → AreDefined ds old now 0
none_defined ds old now e = record { made = e; names = ap declared_names e }

body_behind : (ds es : Declarations) (e : Declared) (t : Ty) → with_body (ds ++ e ∷ es) (length ds) t ≡ ds ++ record { name = e.name; body = Some t } ∷ es
body_behind [] es e t = refl
body_behind (d ∷ ds) es e t = ap (λ r. d ∷ r) (body_behind ds es e t)

pub length_names : (ds : List TypeDef) (old : Declarations) → declared_names old ≡ map (λ d. d.name) ds → length old ≡ length ds
length_names ds old e = sym (length-map old (λ d. d.name)) ∙ ap length e ∙ length-map ds (λ d. d.name)

names_at : (ds : List TypeDef) (old : Declarations) (i : ℕ) (d : TypeDef) → i < length ds → d ≡ get_or ds i d → declared_names old ≡ map (λ c. c.name) ds → (e : Declared) × ((e.name ≡ d.name) × (drop i old ≡ e ∷ drop (suc i) old))
names_at [] old i d lt e h = absurd (omega arith)
names_at (c ∷ ds) [] i d lt e h = absurd (cc)
names_at (c ∷ ds) (o ∷ old) zero d lt e h = (o, ((let same : o.name ≡ c.name = cc in same ∙ ap (λ (x : TypeDef). x.name) (sym e)), refl))
names_at (c ∷ ds) (o ∷ old) (suc i) d lt e h = let rest : declared_names old ≡ map (λ x. x.name) ds = cc in names_at ds old i d (omega arith) e rest

pub one_defined : (ds : List TypeDef) (old now more : Declarations) (i : ℕ) (d : TypeDef) (t : Ty) → i < length ds → d ≡ get_or ds i d → declared_names old ≡ map (λ c. c.name) ds → more ≡ with_body now i t → type_in (declared_names old) d.body ≡ Some t → AreDefined ds old now i → AreDefined ds old more (i + 1)
one_defined ds old now more i d t lt e h m g s =
    let names = declared_names old in
    let front = map (with_type names) (take i ds) in
    let at = names_at ds old i d lt e h in
    let long : length front ≡ i = length-map (take i ds) (with_type names) ∙ omega (arith, length-take i ds) in
    let here : now ≡ front ++ (at.0 ∷ drop (suc i) old) = s.made ∙ ap (λ r. front ++ r) at.1.1 in
    let put : with_body now i t ≡ front ++ record { name = at.0.name; body = Some t } ∷ drop (suc i) old =
    ap₂ (λ ns n. with_body ns n t) here (sym long) ∙ body_behind front (drop (suc i) old) at.0 t in
    let make : ℕ → Option Ty → Declared = λ n o. record { name = n; body = o } in
    let same : make at.0.name (Some t) ≡ with_type names d = ap₂ make at.1.0 (sym g) in
    let grown : map (with_type names) (take (i + 1) ds) ≡ front ++ with_type names d ∷ [] =
    ap (map (with_type names)) (take_next ds i d lt e) ∙ map-append (with_type names) (take i ds) (d ∷ []) in
    record {
      made =
          m ∙ put ∙ ap (λ x. front ++ x ∷ drop (suc i) old) same ∙ sym (append_assoc front (with_type names d ∷ []) (drop (suc i) old))
          ∙ ap₂ (λ a n. a ++ drop n old) (sym grown) (sym (add-one i));
      names = ap declared_names m ∙ names-with_body now i t ∙ s.names;
    }

pub all_defined : (ds : List TypeDef) (old now : Declarations) (i : ℕ) → length ds ≤ i → declared_names old ≡ map (λ d. d.name) ds → AreDefined ds old now i → now ≡ map (with_type (declared_names old)) ds
all_defined ds old now i le h s =
    s.made ∙ ap₂ (λ xs ys. map (with_type (declared_names old)) xs ++ ys) (take_all i ds le) (drop_all i old (omega (arith, length_names ds old h))) ∙ append-nil _

-- ---- the definitions

pub definitions_made : (names : List ℕ) (ds : List TypeDef) (defs : Definitions) → map as_declared defs ≡ map (with_type names) ds → AllZip (IsDefinitionOf names) ds defs
definitions_made names [] [] e = tt
definitions_made names [] (f ∷ defs) e = absurd (cc)
definitions_made names (d ∷ ds) [] e = absurd (cc)
definitions_made names (d ∷ ds) (f ∷ defs) e =
    let one : as_declared f ≡ with_type names d = cc in
    let rest : map as_declared defs ≡ map (with_type names) ds = cc in
    (record { name = ap (λ (x : Declared). x.name) one; body = sym (ap (λ (x : Declared). x.body) one) }, definitions_made names ds defs rest)

pub never_reaches : (ds : Declarations) (defs : Definitions) → map as_declared defs ≡ ds → ((x : ℕ) → Reaches (body_of defs) x x → ⊥) → (x : ℕ) → ReachesItself ds x → ⊥
never_reaches ds defs e h x r = h x (reaches_along (λ y. ap (λ d. declared_body d y) (sym e) ∙ body-kept defs y) r)

pub as_declarations : (s : Script) (names : List ℕ) (types : List TypeDef) (now : Declarations) → names ≡ type_names s → types ≡ s.types → now ≡ map (with_type names) types → now ≡ declarations s
as_declarations s names types now e same h = h ∙ ap₂ (λ ns ds. map (with_type ns) ds) e same

pub cyclic : (s : Script) (ds : Declarations) (types : List TypeDef) (x : ℕ) (f : NormFault) → ds ≡ declarations s → types ≡ s.types → IsFirst (ReachesItself ds) x → IsPlaceOf types x f → IsCyclic s f
cyclic s ds types x (Duplicate at) e same h p = p
cyclic s ds types x (UnknownType at) e same h p = p
cyclic s ds types x (BigType at) e same h p = p
cyclic s ds types x (Unguarded at) e same h p =
    (x, subst (λ es. IsFirst (ReachesItself es) x) e h, ap (λ (us : List TypeDef). option_map (λ d. d.at.from) (slice_get us x)) (sym same) ∙ p)
cyclic s ds types x (UnknownProc at) e same h p = p
cyclic s ds types x (Arity at) e same h p = p
cyclic s ds types x (TooNested at) e same h p = p
cyclic s ds types x (Memory error) e same h p = tt
