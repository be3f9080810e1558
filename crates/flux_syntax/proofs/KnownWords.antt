-- The words and the signs that the language knows: each has its place in a list, and those are all.
use Rattle.std.proofs.Common.{◌≡◌, ◌≢◌, ◌<◌, ◌≤◌, ◌+◌, ℕ, Bool, true, false, List, [], ◌∷◌, length, take, get_or, map, All, Contains, refl, sym, ◌∙◌, lit<}
use Rattle.std.specs.Prelude.{bytes_eq}
use Rattle.std.proofs.lemmas.Bool.{false≢true, false_from_ne_true}
use Rattle.std.proofs.lemmas.List.{get_or-map, take_all}
use Rattle.std.proofs.lemmas.List.Elements.{All-append, All-contains, All-map, All-more, All-same}
use Rattle.std.proofs.lemmas.List.Folds.{list_any_none}
use Rattle.std.proofs.lemmas.Slice.Eq.{bytes_eq-Decides}
use denote.Enum.Declared.{tag_of}
use Rattle.flux_atom.specs.declared.atom.Atom.TheVariants.{Bool as Truth}
use Rattle.flux_atom.specs.Literal.{literal}
use Rattle.flux_atom.specs.Reserved.{reserved, is_reserved}
use Rattle.flux_grammar.specs.contracts.lexeme.Keyword.{the_type as keyword_type}
use Rattle.flux_grammar.specs.contracts.lexeme.Sign.{the_type as sign_type}
use Rattle.flux_grammar.specs.contracts.lexeme.Soft.{the_type as soft_type}
use Rattle.flux_grammar.specs.declared.lexeme.Keyword.{Keyword}
use Rattle.flux_grammar.specs.declared.lexeme.Keyword.TheVariants as key
use Rattle.flux_grammar.specs.declared.lexeme.Sign.{Sign as Mark}
use Rattle.flux_grammar.specs.declared.lexeme.Sign.TheVariants as sign
use Rattle.flux_grammar.specs.declared.lexeme.Soft.{Soft}
use Rattle.flux_grammar.specs.declared.lexeme.Soft.TheVariants as soft
use Rattle.flux_grammar.specs.Lexemes.{keyword_text, sign_text}
use Rattle.flux_grammar.specs.Tokens.{signs}
use Rattle.flux_syntax.specs.declared.words.TheConstants.{KEYWORDS, SIGNS, SOFT_WORDS}

-- ---- looking for a text in a list

module _ {K : Type 0} (text_of : K → List ℕ) (text : List ℕ) (ks : List K) (i : ℕ) where
  -- the element here has another text too
  pub missed : (d : K) (here : List ℕ) → i < length ks → here ≡ text_of (get_or ks i d) → bytes_eq here text ≡ false → All (λ k. text ≢ text_of k) (take i ks) → All (λ k. text ≢ text_of k) (take (i + 1) ks)
  missed d here below is other before =
      All-more (λ k. text ≢ text_of k) ks i d below before
      (λ e. false≢true (sym other ∙ (bytes_eq-Decides here text).1 (is ∙ sym e)))

  -- a list that has all of them was gone over
  pub none_of_all : length ks ≤ i → ((k : K) → Contains ks k) → All (λ k. text ≢ text_of k) (take i ks) → (k : K) → text ≢ text_of k
  none_of_all over each before k =
      All-contains (λ j. text ≢ text_of j) ks k
      (All-same (λ j. text ≢ text_of j) ks (take i ks) (sym (take_all i ks over)) before)
      (each k)

-- ---- the lists have all of them

pub each_keyword : (k : Keyword) → Contains KEYWORDS k
each_keyword key.Type = (0, lit< tt, refl)
each_keyword k = (tag_of keyword_type k, lit< tt, refl)

pub each_sign : (s : Mark) → Contains SIGNS s
each_sign sign.Open = (0, lit< tt, refl)
each_sign s = (tag_of sign_type s, lit< tt, refl)

pub each_soft : (s : Soft) → Contains SOFT_WORDS s
each_soft soft.StringWord = (0, lit< tt, refl)
each_soft s = (tag_of soft_type s, lit< tt, refl)

-- ---- the reserved words are the keywords and the truth values: a text of none isn't reserved

pub unreserved : (text : List ℕ) → ((k : Keyword) → text ≢ keyword_text k) → ((b : Bool) → text ≢ literal (Truth b)) → is_reserved text ≡ false
unreserved text no_keyword no_truth =
    list_any_none (bytes_eq text) reserved
    (All-append Other (map keyword_text KEYWORDS) (map (λ b. literal (Truth b)) (true ∷ false ∷ []))
    (All-map Other keyword_text KEYWORDS (λ i d below. other _ (no_keyword (get_or KEYWORDS i d))))
    (All-map Other (λ b. literal (Truth b)) (true ∷ false ∷ []) (λ i d below. other _ (no_truth (get_or (true ∷ false ∷ []) i d)))))
  where
    Other : List ℕ → Type 0
    Other t = bytes_eq text t ≡ false

    other : (t : List ℕ) → text ≢ t → Other t
    other t differs = false_from_ne_true (bytes_eq text t) (λ e. differs ((bytes_eq-Decides text t).0 e))

-- ---- each text of a sign is one's

pub sign_known : (text : List ℕ) → Contains signs text → ((s : Mark) → text ≢ sign_text s) → ⊥
sign_known text (i, below, at) none =
    none (get_or SIGNS i sign.Open) (sym at ∙ get_or-map sign_text SIGNS i sign.Open text below)
