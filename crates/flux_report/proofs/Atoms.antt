-- How a type is read that is no list of others: between parentheses, an element, a word.
use Rattle.std.proofs.Common.{◌≡◌, ◌<◌, ◌≤◌, ◌+◌, ℕ, Option, Some, None, List, [], ◌∷◌, ◌++◌, slice_get, refl, ap, ◌∙◌, option_map, IsSomeAnd}
use Rattle.flux_atom.specs.declared.atom.AtomKind.{AtomKind}
use Rattle.flux_atom.specs.declared.atom.AtomKind.TheVariants as kind
use Rattle.flux_grammar.specs.declared.lexeme.Lexeme.{Lexeme}
use Rattle.flux_grammar.specs.declared.lexeme.Lexeme.TheVariants.{Sign, Soft}
use Rattle.flux_grammar.specs.declared.lexeme.Piece.{Piece}
use Rattle.flux_grammar.specs.declared.lexeme.Sign.TheVariants as sign
use Rattle.flux_grammar.specs.declared.tree.TypeText.{TypeText}
use Rattle.flux_grammar.specs.declared.tree.TypeText.TheVariants as ty
use Rattle.flux_grammar.specs.Grammar.{limit, tatom, content, spanning, Reads, reads-group, reads-quoted-elem, reads-any, reads-string, reads-bool, reads-int, reads-named, reads-named-child, reads-alone, reads-elem, reads-no-content}
use Rattle.flux_grammar.specs.States.{State, Takes}
use Rattle.flux_grammar.specs.TypeOf.{type_of}
use Rattle.flux_schema.specs.Definitions.{Definition, Definitions, names_of, Differ}
use Rattle.flux_schema.specs.Ty.{Ty, empty, atom, element, any_element, named}
use Rattle.flux_report.proofs.Items.{Item, mark, label, typed, any_word, name, named_items, soft_of, Means, is_label, is_string_label, is_bool_label, is_int_label, is_child_label, is_quoted, is_typed, is_any, is_name, is_child_name, Follows, over, on, part, sign_taken}
use Rattle.flux_report.proofs.Forms.{Stands, stands_as, starred, AltForm, Post, PostForm, Content, Stars, read_content, read_marks}
use Rattle.flux_report.proofs.Places.{named_here}
use Rattle.flux_report.proofs.SameTypes.{same_refl, same_element, same_any}
use Rattle.flux_report.proofs.TreeTypes.{of_group, of_elem, of_any, of_kind, of_named}

-- ---- words

elem_reads : {d n : ℕ} {l : Lexeme} {x y z : Piece} {a b c e f : State} {o : Option TypeText} → Means (label n) l → Takes l a x b → Takes (Sign sign.OpenSquare) b y c → Reads None (content d) c e o → Takes (Sign sign.CloseSquare) e z f → Reads None (tatom d) a f (ty.Elem n o (spanning x.span.from z.span.to))
elem_reads (is_label n) t u r v = reads-named t (reads-elem u r v)
elem_reads (is_string_label n) t u r v = reads-string t (reads-elem u r v)
elem_reads (is_bool_label n) t u r v = reads-bool t (reads-elem u r v)
elem_reads (is_int_label n) t u r v = reads-int t (reads-elem u r v)
elem_reads (is_child_label n) t u r v = reads-named-child t (reads-elem u r v)
elem_reads (is_quoted n) t u r v = reads-quoted-elem t u r v

any_reads : {d : ℕ} {l : Lexeme} {x y z : Piece} {a b c e f : State} {o : Option TypeText} → Means any_word l → Takes l a x b → Takes (Sign sign.OpenSquare) b y c → Reads None (content d) c e o → Takes (Sign sign.CloseSquare) e z f → Reads None (tatom d) a f (ty.AnyElem o (spanning x.span.from z.span.to))
any_reads (is_any n) t u r v = reads-any t u r v

soft_reads : {d n : ℕ} {x : Piece} {a b : State} (k : AtomKind) → Takes (Soft (soft_of k) n) a x b → Reads None (tatom d) a b (ty.Kind k x.span)
soft_reads kind.Text t = reads-string t reads-alone
soft_reads kind.Bool t = reads-bool t reads-alone
soft_reads kind.Int t = reads-int t reads-alone

kind_reads : {d : ℕ} {k : AtomKind} {l : Lexeme} {x : Piece} {a b : State} → Means (typed k) l → Takes l a x b → Reads None (tatom d) a b (ty.Kind k x.span)
kind_reads (is_typed k n) t = soft_reads k t

name_reads : {d n : ℕ} {l : Lexeme} {x : Piece} {a b : State} → Means (name n) l → Takes l a x b → Reads None (tatom d) a b (ty.Named n x.span)
name_reads (is_name n) t = reads-named t reads-alone
name_reads (is_child_name n) t = reads-named-child t reads-alone

module _ (defs : Definitions) where
  record Atom (d : ℕ) (a c : State) (t : Ty) : Type 0 where
    tree : TypeText
    reads : Reads None (tatom d) a c tree
    stands : Stands defs t (type_of defs tree)

  marked : (d : ℕ) (a b c : State) (t : Ty) (n : ℕ) → Atom d a b t → ((from : ℕ) → Stars defs from b c n) → Post defs d a c (starred n t)
  marked d a b c t n x stars = read_marks defs d a b c t x.tree n x.reads x.stands stars

  -- ---- between parentheses

  group_closed : {d : ℕ} {x : Piece} {a b e c : State} (t : Ty) → Takes (Sign sign.Open) a x b → Content defs d b e t → Follows (mark sign.Close ∷ []) e c → Atom d a c t
  group_closed t taken inner (on m z over) = record {
    tree = ty.Group inner.tree _;
    reads = reads-group taken inner.reads (sign_taken m z);
    stands = stands_as defs t (of_group defs inner.tree _) inner.stands;
  }

  group_atom : (k : ℕ) (is : List Item) (t : Ty) → AltForm defs k is t → (d : ℕ) → d + (k + 1) ≤ limit → (a c : State) → Follows (mark sign.Open ∷ (is ++ mark sign.Close ∷ [])) a c → Atom d a c t
  group_atom k is t form d low a c (on m taken f) =
      let p = part is (mark sign.Close ∷ []) f in
      group_closed t (sign_taken m taken) (read_content defs k is t form d low _ _ p.front) p.back

  pub group_form : (k : ℕ) (is : List Item) (t : Ty) → AltForm defs k is t → PostForm defs (k + 1) (mark sign.Open ∷ (is ++ mark sign.Close ∷ [])) t
  group_form k is t form d low a b c f n stars = marked d a b c t n (group_atom k is t form d low a b f) stars

  no_content : (d : ℕ) (a b : State) → Follows [] a b → Content defs d a b empty
  no_content d a b over = record {
    tree = None;
    reads = reads-no-content;
    stands = record { other = empty; is = refl; same = same_refl defs empty };
  }

  empty_atom : (d : ℕ) (a c : State) → Follows (mark sign.Open ∷ mark sign.Close ∷ []) a c → Atom d a c empty
  empty_atom d a c (on m taken f) = group_closed empty (sign_taken m taken) (no_content d _ _ over) f

  pub empty_form : PostForm defs 0 (mark sign.Open ∷ mark sign.Close ∷ []) empty
  empty_form d low a b c f n stars = marked d a b c empty n (empty_atom d a b f) stars

  -- ---- elements

  -- the items between brackets are read as the type
  abbrev pub ContentForm : ℕ → List Item → Ty → Type 0
  ContentForm k is t = (d : ℕ) → d + k ≤ limit → (a b : State) → Follows is a b → Content defs d a b t

  pub no_content_form : ContentForm 0 [] empty
  no_content_form d low a b f = no_content d a b f

  elem_closed : {d n : ℕ} {l : Lexeme} {x y : Piece} {a b c e f : State} (t : Ty) → Means (label n) l → Takes l a x b → Takes (Sign sign.OpenSquare) b y c → Content defs d c e t → Follows (mark sign.CloseSquare ∷ []) e f → Atom d a f (element n t)
  elem_closed {n = n} t w taken opens inner (on m z over) = record {
    tree = ty.Elem n inner.tree _;
    reads = elem_reads w taken opens inner.reads (sign_taken m z);
    stands = record {
      other = element n inner.stands.other;
      is = of_elem defs n inner.tree _ ∙ ap (option_map (element n)) inner.stands.is;
      same = same_element defs n inner.stands.same;
    };
  }

  elem_atom : (k : ℕ) (is : List Item) (t : Ty) → ContentForm k is t → (n d : ℕ) → d + k ≤ limit → (a c : State) → Follows (label n ∷ mark sign.OpenSquare ∷ (is ++ mark sign.CloseSquare ∷ [])) a c → Atom d a c (element n t)
  elem_atom k is t form n d low a c (on w taken (on m opens f)) =
      let p = part is (mark sign.CloseSquare ∷ []) f in
      elem_closed t w taken (sign_taken m opens) (form d low _ _ p.front) p.back

  pub elem_form : (k : ℕ) (is : List Item) (t : Ty) (l : ℕ) → ContentForm k is t → PostForm defs k (label l ∷ mark sign.OpenSquare ∷ (is ++ mark sign.CloseSquare ∷ [])) (element l t)
  elem_form k is t l form d low a b c f n stars = marked d a b c (element l t) n (elem_atom k is t form l d low a b f) stars

  any_closed : {d : ℕ} {l : Lexeme} {x y : Piece} {a b c e f : State} (t : Ty) → Means any_word l → Takes l a x b → Takes (Sign sign.OpenSquare) b y c → Content defs d c e t → Follows (mark sign.CloseSquare ∷ []) e f → Atom d a f (any_element t)
  any_closed t w taken opens inner (on m z over) = record {
    tree = ty.AnyElem inner.tree _;
    reads = any_reads w taken opens inner.reads (sign_taken m z);
    stands = record {
      other = any_element inner.stands.other;
      is = of_any defs inner.tree _ ∙ ap (option_map any_element) inner.stands.is;
      same = same_any defs inner.stands.same;
    };
  }

  any_atom : (k : ℕ) (is : List Item) (t : Ty) → ContentForm k is t → (d : ℕ) → d + k ≤ limit → (a c : State) → Follows (any_word ∷ mark sign.OpenSquare ∷ (is ++ mark sign.CloseSquare ∷ [])) a c → Atom d a c (any_element t)
  any_atom k is t form d low a c (on w taken (on m opens f)) =
      let p = part is (mark sign.CloseSquare ∷ []) f in
      any_closed t w taken (sign_taken m opens) (form d low _ _ p.front) p.back

  pub any_form : (k : ℕ) (is : List Item) (t : Ty) → ContentForm k is t → PostForm defs k (any_word ∷ mark sign.OpenSquare ∷ (is ++ mark sign.CloseSquare ∷ [])) (any_element t)
  any_form k is t form d low a b c f n stars = marked d a b c (any_element t) n (any_atom k is t form d low a b f) stars

  -- ---- words alone

  kind_atom : (k : AtomKind) (d : ℕ) (a c : State) → Follows (typed k ∷ []) a c → Atom d a c (atom k)
  kind_atom k d a c (on w taken over) = record {
    tree = ty.Kind k _;
    reads = kind_reads w taken;
    stands = record { other = atom k; is = of_kind defs k _; same = same_refl defs (atom k) };
  }

  pub kind_form : (k : AtomKind) → PostForm defs 0 (typed k ∷ []) (atom k)
  kind_form k d low a b c f n stars = marked d a b c (atom k) n (kind_atom k d a b f) stars

  name_atom : Differ (names_of defs) → (x : ℕ) (e : Definition) → slice_get defs x ≡ Some e → (d : ℕ) (a c : State) → Follows (name e.name ∷ []) a c → Atom d a c (named x)
  name_atom apart x e at d a c (on w taken over) = record {
    tree = ty.Named e.name _;
    reads = name_reads w taken;
    stands = record {
      other = named x;
      is = of_named defs e.name _ ∙ named_here defs apart x e at;
      same = same_refl defs (named x);
    };
  }

  pub name_form : Differ (names_of defs) → (m x : ℕ) (o : Option Definition) → slice_get defs x ≡ o → IsSomeAnd o (λ e. e.name < m) → PostForm defs 0 (named_items o) (named x)
  name_form apart m x None at below d low a b c f n stars = absurd below
  name_form apart m x (Some e) at below d low a b c f n stars = marked d a b c (named x) n (name_atom apart x e at d a b f) stars
