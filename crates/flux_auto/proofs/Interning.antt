-- Profiles that are kept by numbers.
use Rattle.std.proofs.Common.{◌≡◌, ℕ, ◌<◌, Bool, true, false, cond, List, [], ◌∷◌, Some, length, slice_get, get_or, map, All, refl, sym, ap, ap₂, subst, ◌∙◌, arith, rules}
use Rattle.std.proofs.lemmas.List.Elements.{All-cons, All-head, All-tail}
use Rattle.std.proofs.lemmas.Option.{get_or_from_slice_get}
use Rattle.indexmap.specs.IndexMap.{insert_entry}
use Rattle.indexmap.specs.IndexSet.{insert_key}
use Rattle.flux_atom.specs.declared.atom.AtomKind.{AtomKind}
use Rattle.flux_auto.specs.declared.arcs.Arcs.{Arcs}
use Rattle.flux_auto.specs.declared.arcs.Leap.{Leap}
use Rattle.flux_auto.specs.declared.table.Row.{Row}
use Rattle.flux_auto.specs.declared.profiles.Turn.{Turn}
use Rattle.flux_auto.specs.declared.profiles.Turn.TheVariants.{Atom, Elem}
use Rattle.flux_auto.specs.contracts.profiles.TurnPartialEq.TheImpl.{eq-value}
use Rattle.flux_auto.specs.Takes.{State, profile_atom, profile_element}
use Rattle.flux_auto.specs.Arcs.{IsIndex, leaps_at, leaps_by, fired}
use Rattle.flux_auto.specs.Built.{state_of}
use Rattle.flux_auto.proofs.ArcLaws.{atom_fires, element_fires}
use Rattle.flux_auto.proofs.Meaning.{length-map}
use Rattle.flux_auto.specs.Profiles.{profile_at, turned, IsWithin, Gives, Keeps}

-- equal turns are the same
pub same_turn : (x y : Turn) → eq-value.it x y ≡ true → x ≡ y
same_turn (Atom k r) (Atom j q) h = search rules
same_turn (Atom k r) (Elem m d q) h = search rules
same_turn (Elem l c r) (Atom j q) h = search rules
same_turn (Elem l c r) (Elem m d q) h = search rules

pub at_place : (ps : List (List Bool)) (n : ℕ) (p : List Bool) → slice_get ps n ≡ Some p → profile_at ps n ≡ p
at_place ps n p at = get_or_from_slice_get ps n p [] at

-- the first key that is put into a set
pub first_key : {V : Type 0} (eq : V → V → Bool) (old new : List V) (v : V) → old ≡ [] → new ≡ insert_key eq old v → new ≡ v ∷ []
first_key eq old new v e f = f ∙ ap (λ ks. insert_key eq ks v) e

pub none_given : (states : List State) (ps : List (List Bool)) (entries : List (Turn × ℕ)) → entries ≡ [] → All (λ e. Gives states ps e.0 e.1) entries
none_given states ps entries e = let P = λ (t : Turn × ℕ). Gives states ps t.0 t.1 in subst (All P) (sym e) (λ k d h. absurd (omega (arith, h)))

-- what holds of each entry and of a new one holds of each entry after it is put in
pub All-insert_entry : {K V : Type 0} (P : K × V → Type 0) (eq : K → K → Bool) → ((x y : K) → eq x y ≡ true → x ≡ y)
    → (es : List (K × V)) (k : K) (v : V) → All P es → P (k, v) → All P (insert_entry eq es k v)
All-insert_entry P eq same [] k v all one = All-cons P (k, v) [] one all
All-insert_entry {K} {V} P eq same (e ∷ es) k v all one = by (eq k e.0) refl (All-insert_entry P eq same es k v (All-tail P e es all) one)
  where
    by : (b : Bool) → eq k e.0 ≡ b → All P (insert_entry eq es k v) → All P (cond b ((e.0, v) ∷ es) (e ∷ insert_entry eq es k v))
    by true h rest = All-cons P (e.0, v) es (subst (λ (x : K). P (x, v)) (same k e.0 h) one) (All-tail P e es all)
    by false h rest = All-cons P e (insert_entry eq es k v) (All-head P e es all) rest

-- a tree gives the same where numbers keep their profiles
pub turned_keeps : (states : List State) (old new : List (List Bool)) (turn : Turn) → Keeps old new → IsWithin (length old) turn
    → turned states new turn ≡ turned states old turn
turned_keeps states old new (Atom k r) g w = ap (profile_atom states k) (g.same r w)
turned_keeps states old new (Elem l c r) g w = ap₂ (profile_element states l) (g.same c w.0) (g.same r w.1)

pub within_keeps : (old new : List (List Bool)) (turn : Turn) → Keeps old new → IsWithin (length old) turn → IsWithin (length new) turn
within_keeps old new (Atom k r) g w = omega (arith, g.longer, w)
within_keeps old new (Elem l c r) g w = (omega (arith, g.longer, w.0), omega (arith, g.longer, w.1))

pub gives_keeps : (states : List State) (old new : List (List Bool)) (turn : Turn) (n : ℕ) → Keeps old new → Gives states old turn n → Gives states new turn n
gives_keeps states old new turn n g h = record {
  within = within_keeps old new turn g h.within;
  there = omega (arith, g.longer, h.there);
  same = g.same n h.there ∙ h.same ∙ sym (turned_keeps states old new turn g h.within);
}

-- a profile that was computed and has its number now
pub gives_new : (states : List State) (old new : List (List Bool)) (turn : Turn) (n : ℕ) (set : List Bool) → Keeps old new → IsWithin (length old) turn
    → set ≡ turned states old turn → n < length new → profile_at new n ≡ set → Gives states new turn n
gives_new states old new turn n set g w e there at = record {
  within = within_keeps old new turn g w;
  there = there;
  same = at ∙ e ∙ sym (turned_keeps states old new turn g w);
}

pub all_keep : (states : List State) (old new : List (List Bool)) (entries : List (Turn × ℕ)) → Keeps old new
    → All (λ e. Gives states old e.0 e.1) entries → All (λ e. Gives states new e.0 e.1) entries
all_keep states old new entries g all = λ k d h. gives_keeps states old new (get_or entries k d).0 (get_or entries k d).1 g (all k d h)

-- so the numbers that are remembered stay right with one more
pub right_more : (states : List State) (old new : List (List Bool)) (before between after : List (Turn × ℕ)) (turn : Turn) (n : ℕ) → Keeps old new → between ≡ before
    → All (λ e. Gives states old e.0 e.1) before → Gives states new turn n → after ≡ insert_entry eq-value.it between turn n → All (λ e. Gives states new e.0 e.1) after
right_more states old new before between after turn n g stays all one e =
    let P = λ (e : Turn × ℕ). Gives states new e.0 e.1 in
    let there = subst (λ (es : List (Turn × ℕ)). All P es) (sym stays) (all_keep states old new before g all) in
    subst (λ (es : List (Turn × ℕ)). All P es) (sym e) (All-insert_entry P eq-value.it same_turn between turn n there one)

-- ---- the profile of a tree and what follows

pub atom_turned : (rows : List Row) (a : Arcs) (ps : List (List Bool)) (turn : Turn) (k : AtomKind) (r : ℕ) (leaps : List Leap) (rest : List Bool) → IsIndex (map state_of rows) a → turn ≡ Atom k r → leaps ≡ leaps_at a k → rest ≡ profile_at ps r
    → fired (length rows) leaps rest ≡ turned (map state_of rows) ps turn
atom_turned rows a ps turn k r leaps rest index is e f =
    ap₂ (λ n l. fired n l rest) (sym (length-map state_of rows)) e ∙ atom_fires (map state_of rows) a k rest index ∙ ap (profile_atom (map state_of rows) k) f ∙ ap (turned (map state_of rows) ps) (sym is)

pub element_turned : (rows : List Row) (a : Arcs) (ps : List (List Bool)) (turn : Turn) (l c r : ℕ) (leaps : List Leap) (content rest : List Bool) → IsIndex (map state_of rows) a → turn ≡ Elem l c r → leaps ≡ leaps_by a l content → content ≡ profile_at ps c → rest ≡ profile_at ps r
    → fired (length rows) leaps rest ≡ turned (map state_of rows) ps turn
element_turned rows a ps turn l c r leaps content rest index is e f g =
    ap₂ (λ n x. fired n x rest) (sym (length-map state_of rows)) e ∙ element_fires (map state_of rows) a l content rest index ∙ ap₂ (profile_element (map state_of rows) l) f g ∙ ap (turned (map state_of rows) ps) (sym is)
