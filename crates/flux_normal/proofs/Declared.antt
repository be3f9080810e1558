-- Names that are declared one behind the other.
use Rattle.std.proofs.Common.{◌≡◌, ◌==◌, ℕ, ◌+◌, ◌-◌, ◌^◌, ◌<◌, ◌≤◌, ◌||◌, min, Bool, true, false, cond, eqb, List, [], ◌∷◌, ◌++◌, length, take, drop, get_or, Option, Some, None, map, refl, sym, ap, ap₂, ◌∙◌, subst, arith, length-take, drop-cons, add-one}
use Rattle.std.specs.List.{list_any}
use Rattle.std.proofs.lemmas.List.{take_all, drop_all, map-append, length-map}
use Rattle.std.proofs.lemmas.List.Folds.{list_any-append}
use Rattle.flux_grammar.specs.declared.tree.TypeDef.{TypeDef}
use Rattle.flux_grammar.specs.NormalFaults.{first, is_among, again, repeated, Mention}
use Rattle.flux_schema.specs.Definitions.{Declarations, declared_names}
use Rattle.flux_normal.specs.declared.fault.NormFault.{NormFault}
use Rattle.flux_normal.specs.declared.fault.NormFault.TheVariants.{Duplicate, UnknownType, BigType, Unguarded, UnknownProc, Arity, TooNested, Memory}
use Rattle.flux_normal.specs.Types.{mention_of, without_body, IsAgain, IsRepeated}
use Rattle.flux_normal.proofs.Firsts.{take_next}

-- the first i are declared, and none of them has the name of one before it
pub record AreDeclared (ds : List TypeDef) (draft : Declarations) (i : ℕ) : Type 0 where
  pub before : List ℕ
  pub made : draft ≡ map without_body (take i ds)
  pub same : (n : ℕ) → is_among n before ≡ is_among n (declared_names draft)
  pub left : repeated before (map mention_of (drop i ds)) ≡ repeated [] (map mention_of ds)

pub none_declared : (ds : List TypeDef) (draft : Declarations) → draft ≡ [] → AreDeclared ds draft 0
none_declared ds draft e = record {
  before = [];
  made = e;
  same = λ n. ap (λ (d : Declarations). is_among n (declared_names d)) (sym e);
  left = refl;
}

drop_here : (ds : List TypeDef) (i : ℕ) (d : TypeDef) → i < length ds → d ≡ get_or ds i d → drop i ds ≡ d ∷ drop (i + 1) ds
drop_here ds i d lt e = drop-cons ds i d lt ∙ ap₂ (λ x n. x ∷ drop n ds) (sym e) (sym (add-one i))

-- what stands before the next name, and that name
unfolded : (ds : List TypeDef) (draft : Declarations) (i : ℕ) (d : TypeDef) → i < length ds → d ≡ get_or ds i d → (s : AreDeclared ds draft i) → again s.before (mention_of d) ++ repeated (d.name ∷ s.before) (map mention_of (drop (i + 1) ds)) ≡ repeated [] (map mention_of ds)
unfolded ds draft i d lt e s = ap (λ es. repeated s.before (map mention_of es)) (sym (drop_here ds i d lt e)) ∙ s.left

or_last : (a b : Bool) → (b || a) ≡ (a || (b || false))
or_last true true = refl
or_last true false = refl
or_last false true = refl
or_last false false = refl

pub one_declared : (ds : List TypeDef) (draft more : Declarations) (i : ℕ) (d : TypeDef) → i < length ds → d ≡ get_or ds i d → more ≡ draft ++ without_body d ∷ [] → is_among d.name (declared_names draft) ≡ false → AreDeclared ds draft i → AreDeclared ds more (i + 1)
one_declared ds draft more i d lt e m fresh s = record {
  before = d.name ∷ s.before;
  made = m ∙ ap (λ es. es ++ without_body d ∷ []) s.made ∙ sym (ap (map without_body) (take_next ds i d lt e) ∙ map-append without_body (take i ds) (d ∷ []));
  same = λ n.
      ap (λ b. (d.name == n) || b) (s.same n) ∙ or_last (is_among n (declared_names draft)) (d.name == n)
      ∙ sym (ap (is_among n) (ap declared_names m ∙ map-append (λ x. x.name) draft (without_body d ∷ [])) ∙ list_any-append (λ x. x == n) (declared_names draft) (d.name ∷ []));
  left =
      let none : again s.before (mention_of d) ≡ [] = ap (λ b. cond b (d.at.from ∷ []) []) (s.same d.name ∙ fresh) in
      ap (λ us. us ++ repeated (d.name ∷ s.before) (map mention_of (drop (i + 1) ds))) (sym none) ∙ unfolded ds draft i d lt e s;
}

twice : (ds : List TypeDef) (draft : Declarations) (i : ℕ) (d : TypeDef) → i < length ds → d ≡ get_or ds i d → is_among d.name (declared_names draft) ≡ true → AreDeclared ds draft i → first (repeated [] (map mention_of ds)) ≡ Some d.at.from
twice ds draft i d lt e old s =
    let here : again s.before (mention_of d) ≡ d.at.from ∷ [] = ap (λ b. cond b (d.at.from ∷ []) []) (s.same d.name ∙ old) in
    ap first (sym (unfolded ds draft i d lt e s)) ∙ ap (λ us. first (us ++ repeated (d.name ∷ s.before) (map mention_of (drop (i + 1) ds)))) here

pub declared_twice : (ds : List TypeDef) (draft : Declarations) (i : ℕ) (d : TypeDef) (fault : NormFault) → i < length ds → d ≡ get_or ds i d → AreDeclared ds draft i → IsAgain (declared_names draft) d.name d.at.from fault → IsRepeated ds fault
declared_twice ds draft i d (Duplicate at) lt e s h = twice ds draft i d lt e h.1 s ∙ ap Some (sym h.0)
declared_twice ds draft i d (UnknownType at) lt e s h = h
declared_twice ds draft i d (BigType at) lt e s h = h
declared_twice ds draft i d (Unguarded at) lt e s h = h
declared_twice ds draft i d (UnknownProc at) lt e s h = h
declared_twice ds draft i d (Arity at) lt e s h = h
declared_twice ds draft i d (TooNested at) lt e s h = h
declared_twice ds draft i d (Memory error) lt e s h = tt

pub few_declared : (ds : List TypeDef) (draft : Declarations) (i m : ℕ) → i < length ds → length ds ≤ m → AreDeclared ds draft i → length draft < m
few_declared ds draft i m lt le s =
    omega (arith, ap length s.made, length-map (take i ds) without_body, length-take i ds)

pub all_declared : (ds : List TypeDef) (draft : Declarations) (i : ℕ) → length ds ≤ i → AreDeclared ds draft i → draft ≡ map without_body ds
all_declared ds draft i le s = s.made ∙ ap (map without_body) (take_all i ds le)

pub all_differ : (ds : List TypeDef) (draft : Declarations) (i : ℕ) → length ds ≤ i → AreDeclared ds draft i → repeated [] (map mention_of ds) ≡ []
all_differ ds draft i le s = sym (ap (λ es. repeated s.before (map mention_of es)) (sym (drop_all i ds le)) ∙ s.left)

names_of_all : (ds : List TypeDef) → declared_names (map without_body ds) ≡ map (λ d. d.name) ds
names_of_all [] = refl
names_of_all (d ∷ ds) = ap (λ ns. d.name ∷ ns) (names_of_all ds)

pub names_declared : (ds : List TypeDef) (draft : Declarations) (i : ℕ) → length ds ≤ i → AreDeclared ds draft i → declared_names draft ≡ map (λ d. d.name) ds
names_declared ds draft i le s = ap declared_names (all_declared ds draft i le s) ∙ names_of_all ds
