-- Types that are added to an automaton.
use Rattle.std.proofs.Common.{◌≡◌, ◌⊎◌, ℕ, zero, suc, ◌<◌, List, [], ◌∷◌, ◌++◌, length, Option, Some, None, slice_get, Bool, true, false, IsTrue, ◌↔◌, IfSome, map, refl, sym, ap, subst, ◌∙◌, inl, inr, arith, length-append}
use Rattle.std.proofs.lemmas.Option.{slice_get_within}
use Rattle.std.proofs.lemmas.List.{map_push}
use Rattle.std.proofs.lemmas.List.Elements.{Contains-append_left, Contains-append_right}
use Rattle.flux_trees.proofs.EachLaws.{EachLabel-more}
use Rattle.flux_trees.specs.Hedge.{Plain}
use Rattle.flux_trees.specs.Draft.{Draft, outer}
use Rattle.flux_schema.specs.Ty.{Ty}
use Rattle.flux_schema.specs.Member.{Member}
use Rattle.flux_schema.specs.Definitions.{Definitions}
use Rattle.flux_schema.specs.Labels.{IsLabelOf, IsGiven}
use Rattle.flux_types.specs.Read.{ty_of}
use Rattle.flux_auto.specs.declared.table.Table.{Table}
use Rattle.flux_auto.specs.declared.auto.Added.{Added}
use Rattle.flux_auto.specs.Takes.{State, takes}
use Rattle.flux_auto.specs.Automaton.{TakesMembers, IsSomeMember, EdgesGiven}
use Rattle.flux_auto.specs.Standing.{at, lists, Ready, IsContent, IsTableLabel}
use Rattle.flux_auto.specs.Built.{state_of, states_of, Grows, IsClosed, LabelsMore, Extended}
use Rattle.flux_auto.specs.Shown.{shown, IsRight}
use Rattle.flux_auto.specs.Witness.{IsShownBy, IsTakenBy}
use Rattle.flux_auto.proofs.Items.{some_is, get-append, get-end}
use Rattle.flux_auto.proofs.Tables.{IsContent-grows, labelled-at}
use Rattle.flux_auto.proofs.Growing.{below_or_not, carried}
use Rattle.flux_auto.proofs.Meaning.{get-map, get_of-map, content_takes}

-- the same parts
pub right_as : (defs : Definitions) (nullable : List Bool) (a b : Table) (xs ys : List Added) → b.cells.items ≡ a.cells.items → b.rows.items ≡ a.rows.items → ys ≡ xs → IsRight defs nullable a xs → IsRight defs nullable b ys
right_as defs nullable a b xs ys e f g r = record {
  complete = record {
    ground = record {
      even = ap length f ∙ r.complete.ground.even ∙ ap length (sym e);
      end = ap (λ l. at (lists l) 0) e ∙ r.complete.ground.end;
      tells = r.complete.ground.tells;
      bodies = λ x t h. subst (λ l. Ready (length defs) l t) (sym e) (r.complete.ground.bodies x t h);
    };
    closed = λ s q lt h. subst (λ l. IsClosed defs l s q) (sym e) (r.complete.closed s q (subst (λ l. s < length l) e lt) (ap (λ l. slice_get l s) (sym f) ∙ h));
  };
  contents = λ i d h. subst (λ l. IsContent l d.state (ty_of d.ty)) (sym e) (r.contents i d (ap (λ l. slice_get l i) (sym g) ∙ h));
  labels = λ n h. subst (λ (l : List Added). IsGiven defs (map (λ d. ty_of d.ty) l) n) (sym g) (r.labels n (subst (λ l. IsTableLabel defs l n) e h));
}

given-more : (defs : Definitions) (ts : List Ty) (t : Ty) (n : ℕ) → IsGiven defs ts n → IsGiven defs (ts ++ t ∷ []) n
given-more defs ts t n (inl h) = inl h
given-more defs ts t n (inr (u, k, l)) = inr (u, Contains-append_left ts (t ∷ []) u k, l)

given-last : (defs : Definitions) (ts : List Ty) (t : Ty) (n : ℕ) → IsLabelOf n t → IsGiven defs (ts ++ t ∷ []) n
given-last defs ts t n l = inr (t, Contains-append_right ts (t ∷ []) t (0, omega arith, refl), l)

pub right_more : (defs : Definitions) (nullable : List Bool) (n : ℕ) (a b : Table) (xs ys : List Added) (d : Added) (t : Ty) → IsRight defs nullable a xs → Grows n a b → Extended defs nullable b t d.state → LabelsMore defs a b t → ty_of d.ty ≡ t → ys ≡ xs ++ d ∷ [] → IsRight defs nullable b ys
right_more defs nullable n a b xs ys d t r g x more e f = record {
  complete = x.complete;
  contents = λ i k h.
      let h : slice_get (xs ++ d ∷ []) i ≡ Some k = ap (λ l. slice_get l i) (sym f) ∙ h in
      elim (below_or_not i (length xs)) [
        | inl l ↦ carried (λ c. IsContent c k.state (ty_of k.ty)) n a b g (λ more. IsContent-grows a.cells.items more k.state (ty_of k.ty) (r.contents i k (sym (get-append xs (d ∷ []) i l) ∙ h)))
        | inr l ↦
            let at : i ≡ length xs = omega (arith, l, slice_get_within (xs ++ d ∷ []) i k h, length-append xs (d ∷ [])) in
            let same : d ≡ k = some_is d k (sym (get-end xs d []) ∙ ap (slice_get (xs ++ d ∷ [])) (sym at) ∙ h) in
            subst (λ (j : Added). IsContent b.cells.items j.state (ty_of j.ty)) same (subst (IsContent b.cells.items d.state) (sym e) x.content)
      ];
  labels = λ m h.
      let types : map (λ (k : Added). ty_of k.ty) ys ≡ map (λ (k : Added). ty_of k.ty) xs ++ t ∷ [] = ap (map (λ (k : Added). ty_of k.ty)) f ∙ map_push (λ (k : Added). ty_of k.ty) xs d ∙ ap (λ u. map (λ (k : Added). ty_of k.ty) xs ++ u ∷ []) e in
      subst (λ ts. IsGiven defs ts m) (sym types) (elim (more m h) [ inl k ↦ given-more defs (map (λ (k : Added). ty_of k.ty) xs) t m (r.labels m k) | inr l ↦ given-last defs (map (λ (k : Added). ty_of k.ty) xs) t m l ]);
}

pub members_shown : (defs : Definitions) (other : ℕ) (nullable : List Bool) (a : Table) (added : List Added) (i : ℕ) (d : Added) → IsRight defs nullable a added → slice_get added i ≡ Some d
    → IfSome (slice_get (map (λ d. ty_of d.ty) added) i) (TakesMembers (shown defs other a added) d.state)
members_shown defs other nullable a added i d r e =
    subst (λ o. IfSome o (TakesMembers (shown defs other a added) d.state)) (sym (get-map (λ d. ty_of d.ty) added i d e)) (content_takes defs nullable a r.complete d.state (ty_of d.ty) (r.contents i d e))

pub member_shown : (defs : Definitions) (nullable : List Bool) (a : Table) (added : List Added) (i : ℕ) (d : Added) (found : Bool) (v : Plain) → IsRight defs nullable a added → slice_get added i ≡ Some d → found ≡ takes (states_of a) d.state v
    → IfSome (slice_get (map (λ d. ty_of d.ty) added) i) (λ t. IsTrue found ↔ Member defs v t)
member_shown defs nullable a added i d found v r e f =
    let tells = content_takes defs nullable a r.complete d.state (ty_of d.ty) (r.contents i d e) v in
    subst (λ o. IfSome o (λ t. IsTrue found ↔ Member defs v t)) (sym (get-map (λ d. ty_of d.ty) added i d e)) (λ h. tells.0 (sym f ∙ h), λ m. f ∙ tells.1 m)

-- the labels of the edges
pub edges_given : (defs : Definitions) (nullable : List Bool) (other : ℕ) (a : Table) (added : List Added) → IsRight defs nullable a added → EdgesGiven (shown defs other a added)
edges_given defs nullable other a added r s state e i n c q f =
    let p = get_of-map state_of a.rows.items s state e in
    let lt : s < length a.cells.items = omega (arith, slice_get_within a.rows.items s p.0 p.1, r.complete.ground.even) in
    let edges : state.edges ≡ p.0.edges.items = ap (λ (z : State). z.edges) p.2 in
    r.labels n (labelled-at defs a.cells.items p.0.edges.items i n c q (r.complete.closed s p.0 lt p.1).labels (ap (λ l. slice_get l i) (sym edges) ∙ f))

-- a forest that the state takes, or none
pub some_shown : (defs : Definitions) (other : ℕ) (nullable : List Bool) (a : Table) (added : List Added) (i : ℕ) (d : Added) (found : Option (Draft (Unit {0}))) → IsRight defs nullable a added → slice_get added i ≡ Some d → IsTakenBy (states_of a) other d.state found
    → IfSome (slice_get (map (λ d. ty_of d.ty) added) i) (λ t. IsSomeMember (shown defs other a added) t found)
some_shown defs other nullable a added i d found r e taken =
    subst (λ o. IfSome o (λ t. IsSomeMember (shown defs other a added) t found)) (sym (get-map (λ d. ty_of d.ty) added i d e)) (member_of found taken)
  where
    tells : (v : Plain) → (takes (states_of a) d.state v ≡ true) ↔ Member defs v (ty_of d.ty)
    tells = content_takes defs nullable a r.complete d.state (ty_of d.ty) (r.contents i d e)

    given : (n : ℕ) → IsShownBy (states_of a) other n → (n ≡ other) ⊎ IsGiven defs (map (λ (k : Added). ty_of k.ty) added) n
    given n (inl is) = inl is
    given n (inr (s, state, at, j, c, q, f)) = inr (edges_given defs nullable other a added r s state at j n c q f)

    member_of : (found : Option (Draft (Unit {0}))) → IsTakenBy (states_of a) other d.state found → IsSomeMember (shown defs other a added) (ty_of d.ty) found
    member_of (Some m) h = (h.0, (tells (outer m)).0 h.1, EachLabel-more (IsShownBy (states_of a) other) (λ n. (n ≡ other) ⊎ IsGiven defs (map (λ (k : Added). ty_of k.ty) added) n) given (outer m) h.2)
    member_of None h = λ v m. (let x : true ≡ false = sym ((tells v).1 m) ∙ h v in cc)

pub starts_kept : (xs ys : List Added) (d : Added) (i s : ℕ) → ys ≡ xs ++ d ∷ [] → slice_get (map (λ d. d.state) xs) i ≡ Some s → slice_get (map (λ d. d.state) ys) i ≡ Some s
starts_kept xs ys d i s e h = ap (λ l. slice_get (map (λ d. d.state) l) i) e ∙ map_kept xs i h
  where
    map_kept : (xs : List Added) (i : ℕ) → slice_get (map (λ d. d.state) xs) i ≡ Some s → slice_get (map (λ d. d.state) (xs ++ d ∷ [])) i ≡ Some s
    map_kept [] i h = cc
    map_kept (x ∷ xs) zero h = h
    map_kept (x ∷ xs) (suc i) h = map_kept xs i h
