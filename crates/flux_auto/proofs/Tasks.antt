-- What the tasks of reading a type come to.
use Rattle.std.proofs.Common.{◌≡◌, ℕ, ◌+◌, ◌-◌, ◌<◌, ◌≤◌, List, [], ◌∷◌, ◌++◌, length, take, drop, Bool, true, false, cond, Some, Bor, refl, sym, ap, subst, ◌∙◌, inl, arith, append_assoc, length-append, length-drop}
use Rattle.std.proofs.lemmas.List.{append-nil}
use Rattle.std.proofs.Math.Seq.{take-append_seam, drop-append_seam, take-length}
use Rattle.flux_schema.specs.Ty.{Ty, seq, alt, star, named}
use Rattle.flux_schema.specs.Definitions.{Definitions, body_of, IsGood}
use Rattle.flux_types.specs.declared.ty.Ty.{Ty as Tree}
use Rattle.flux_types.specs.Read.{ty_of}
use Rattle.flux_auto.specs.declared.edge.Edge.{Edge}
use Rattle.flux_auto.specs.declared.table.Table.{Table}
use Rattle.flux_auto.specs.declared.linear.Pair.{Pair}
use Rattle.flux_auto.specs.declared.linear.Task.{Task}
use Rattle.flux_auto.specs.declared.linear.Task.TheVariants.{Read, First, Row}
use Rattle.flux_auto.specs.declared.linear.Work.{Work}
use Rattle.flux_auto.specs.Takes.{has}
use Rattle.flux_auto.specs.Standing.{Ready, LabelsStand, is_nullable}
use Rattle.flux_auto.specs.Built.{Grows, Put, IsEven, IsSet, IsGround, Linear}
use Rattle.flux_auto.specs.Pending.{ComesType, ComesFirst, ComesRow, Comes, AllCome, effort, task_effort, all_effort, IsEffort, HasRead, Opens, PutsSecond}
use Rattle.flux_auto.proofs.Growing.{grows_by, grows_on, grows_same, grows_set, grows-length}
use Rattle.flux_auto.proofs.Contents.{put-even}
use Rattle.flux_auto.proofs.Reading.{ground_on, ready_on, labels_on, null_iff, put-grows, put-below, linear_alt, linear_same, linear_seq, linear_star, linear_name}

-- ---- aims

module _ (defs : Definitions) where
  comes_weaker : (n m : ℕ) (k : Task) (P Q : Table → List Edge → Type 0) → m ≤ n → ((b : Table) (es : List Edge) → P b es → Q b es) → (a : Table) (es : List Edge) → Comes defs n k P a es → Comes defs m k Q a es
  comes_weaker n m (Read t k) P Q le f a es c = record { ready = c.ready; labels = c.labels; there = c.there; meets = λ b more g l. f b (es ++ more) (c.meets b more g l) }
  comes_weaker n m (First p) P Q le f a es c = record {
    ready = c.ready;
    labels = c.labels;
    there = c.there;
    within = c.within;
    meets = λ b d s ends nulls first put is null g l. f d (cond nulls es (take p.from es) ++ first) (c.meets b d s ends nulls first put is null g l);
  }
  comes_weaker n m (Row s i) P Q le f a es c = record { late = omega (arith, le, c.late); there = c.there; within = c.within; meets = λ b set. f b es (c.meets b set) }

  pub all_weaker : (n m : ℕ) (ks : List Task) (P Q : Table → List Edge → Type 0) → m ≤ n → ((b : Table) (es : List Edge) → P b es → Q b es) → (a : Table) (es : List Edge) → AllCome defs n ks P a es → AllCome defs m ks Q a es
  all_weaker n m [] P Q le f a es c = f a es c
  all_weaker n m (k ∷ ks) P Q le f a es c = all_weaker n m ks (Comes defs n k P) (Comes defs m k Q) le (λ b l h. comes_weaker n m k P Q le f b l h) a es c

  -- the last tasks come first
  pub all_split : (n : ℕ) (ks ls : List Task) (P : Table → List Edge → Type 0) (a : Table) (es : List Edge) → AllCome defs n (ks ++ ls) P a es → AllCome defs n ls (AllCome defs n ks P) a es
  all_split n [] ls P a es c = c
  all_split n (k ∷ ks) ls P a es c = all_split n ks ls (Comes defs n k P) a es c

  pub all_join : (n : ℕ) (ks ls : List Task) (P : Table → List Edge → Type 0) (a : Table) (es : List Edge) → AllCome defs n ls (AllCome defs n ks P) a es → AllCome defs n (ks ++ ls) P a es
  all_join n [] ls P a es c = c
  all_join n (k ∷ ks) ls P a es c = all_join n ks ls (Comes defs n k P) a es c

pub all_effort-append : (f : ℕ → ℕ) (ks ls : List Task) → all_effort f (ks ++ ls) ≡ all_effort f ks + all_effort f ls
all_effort-append f [] ls = omega arith
all_effort-append f (k ∷ ks) ls = omega (arith, all_effort-append f ks ls)

-- ---- the outermost node of a type

cut_own : (es own : List Edge) (i : ℕ) (b : Bool) → i ≡ length es → cond b (es ++ own) (take i (es ++ own)) ≡ es ++ cond b own []
cut_own es own i true e = refl
cut_own es own i false e = ap (λ n. take n (es ++ own)) e ∙ take-append_seam es own ∙ sym (append-nil es)

pub drop_own : (es own : List Edge) (i : ℕ) → i ≡ length es → drop i (es ++ own) ≡ own
drop_own es own i e = ap (λ n. drop n (es ++ own)) e ∙ drop-append_seam es own

-- the edges from a place on, as a slice
pub from_place : (es : List Edge) (i : ℕ) → take (length es - i) (drop i es) ≡ drop i es
from_place es i = ap (λ n. take n (drop i es)) (sym (length-drop i es)) ∙ take-length (drop i es)

pub put_ends : (a b : Table) (head : Ty) (tail : ℕ) (ends e : Bool) (edges : List Edge) (s : ℕ) → ends ≡ e → Put a b head tail ends edges s → Put a b head tail e edges s
put_ends a b head tail ends e edges s is p = subst (λ x. Put a b head tail x edges s) is p

module _ (defs : Definitions) (tail : ℕ) (a : Table) (v w : Work) (even : IsEven a) (there : tail < length a.cells.items) where
  -- its edges were added
  pub opens_at_once : (t : Ty) (more : List Edge) → ((f : ℕ → ℕ) → effort f t ≡ 1) → w.tasks.items ≡ v.tasks.items → w.edges.items ≡ v.edges.items ++ more → Linear defs a a t tail more → Opens defs t tail a v a w
  opens_at_once t more one k e l = record {
    even = even;
    more = [];
    tasks = k ∙ sym (append-nil v.tasks.items);
    come = record { grows = grows_same (length a.rows.items) a (omega arith); more = more; edges = e; linear = l };
    fewer = λ f is. omega (arith, one f);
  }

  pub opens_same : (x y : Bor Tree) → ty_of x.now ≡ ty_of y.now → Ready (length defs) a.cells.items (ty_of x.now) → LabelsStand defs a.cells.items (ty_of x.now) → w.tasks.items ≡ v.tasks.items ++ Read x tail ∷ [] → w.edges.items ≡ v.edges.items → Opens defs (alt (ty_of x.now) (ty_of y.now)) tail a v a w
  opens_same x y same rx lx k e = record {
    even = even;
    more = Read x tail ∷ [];
    tasks = k;
    come = record {
      ready = rx;
      labels = lx;
      there = there;
      meets = λ b more g l. record { grows = g; more = more; edges = ap (λ l. l ++ more) e; linear = linear_same defs a b (ty_of x.now) (ty_of y.now) tail more same l };
    };
    fewer = λ f is. omega arith;
  }

  pub opens_alt : (x y : Bor Tree) → Ready (length defs) a.cells.items (ty_of x.now) → Ready (length defs) a.cells.items (ty_of y.now) → LabelsStand defs a.cells.items (ty_of x.now) → LabelsStand defs a.cells.items (ty_of y.now) → w.tasks.items ≡ (v.tasks.items ++ Read y tail ∷ []) ++ Read x tail ∷ [] → w.edges.items ≡ v.edges.items
      → Opens defs (alt (ty_of x.now) (ty_of y.now)) tail a v a w
  opens_alt x y rx ry lx ly k e = record {
    even = even;
    more = Read y tail ∷ (Read x tail ∷ []);
    tasks = k ∙ append_assoc v.tasks.items (Read y tail ∷ []) (Read x tail ∷ []);
    come = record {
      ready = rx;
      labels = lx;
      there = there;
      meets = λ b first g l. record {
        ready = ready_on defs (length a.rows.items) (length defs) a b (ty_of y.now) ry g;
        labels = labels_on defs (length a.rows.items) a b (ty_of y.now) ly g;
        there = omega (arith, there, grows-length (length a.rows.items) a b g);
        meets = λ c second h m. record {
          grows = grows_on a b c g h;
          more = first ++ second;
          edges = append_assoc w.edges.items first second ∙ ap (λ l. l ++ (first ++ second)) e;
          linear = linear_alt defs a b c (ty_of x.now) (ty_of y.now) tail first second (first ++ second) l h m refl;
        };
      };
    };
    fewer = λ f is. omega arith;
  }

  pub opens_seq : (x y : Bor Tree) (i : ℕ) → i ≡ length v.edges.items → Ready (length defs) a.cells.items (ty_of x.now) → Ready (length defs) a.cells.items (ty_of y.now) → LabelsStand defs a.cells.items (ty_of x.now) → LabelsStand defs a.cells.items (ty_of y.now)
      → w.tasks.items ≡ (v.tasks.items ++ First (record { left = x; right = y; next = tail; from = i }) ∷ []) ++ Read y tail ∷ [] → w.edges.items ≡ v.edges.items → Opens defs (seq (ty_of x.now) (ty_of y.now)) tail a v a w
  opens_seq x y i at rx ry lx ly k e = record {
    even = even;
    more = First (record { left = x; right = y; next = tail; from = i }) ∷ (Read y tail ∷ []);
    tasks = k ∙ append_assoc v.tasks.items (First (record { left = x; right = y; next = tail; from = i }) ∷ []) (Read y tail ∷ []);
    come = record {
      ready = ry;
      labels = ly;
      there = there;
      meets = λ b own g l.
          let at_end : i ≡ length w.edges.items = at ∙ ap length (sym e) in
          record {
            ready = ready_on defs (length a.rows.items) (length defs) a b (ty_of x.now) rx g;
            labels = labels_on defs (length a.rows.items) a b (ty_of x.now) lx g;
            there = omega (arith, there, grows-length (length a.rows.items) a b g);
            within = omega (arith, at_end, length-append w.edges.items own);
            meets = λ c d s ends nulls first put is null h m.
                let put' : Put b c (ty_of y.now) tail ends own s = subst (λ l. Put b c (ty_of y.now) tail ends l s) (drop_own w.edges.items own i at_end) put in
                record {
                  grows = grows_on a b d g (grows_on b c d (put-grows defs b c (ty_of y.now) tail ends own s put') h);
                  more = cond nulls own [] ++ first;
                  edges = ap (λ l. l ++ first) (cut_own w.edges.items own i nulls at_end) ∙ append_assoc w.edges.items (cond nulls own []) first ∙ ap (λ l. l ++ (cond nulls own [] ++ first)) e;
                  linear = linear_seq defs a b c d (ty_of x.now) (ty_of y.now) tail s own first (cond nulls own [] ++ first) nulls ends (labels_on defs (length a.rows.items) a b (ty_of y.now) ly g) l put' is h m null refl;
                };
          };
    };
    fewer = λ f is. omega arith;
  }

  pub opens_star : (x : Bor Tree) (b : Table) (i s : ℕ) → i ≡ length v.edges.items → Ready (length defs) a.cells.items (ty_of x.now) → LabelsStand defs a.cells.items (ty_of x.now) → Put a b (star (ty_of x.now)) tail true [] s
      → w.tasks.items ≡ (v.tasks.items ++ Row s i ∷ []) ++ Read x s ∷ [] → w.edges.items ≡ v.edges.items → Opens defs (star (ty_of x.now)) tail a v b w
  opens_star x b i s at rx lx put k e =
      let ab = put-grows defs a b (star (ty_of x.now)) tail true [] s put in
      let even_b : IsEven b = put-even a b (star (ty_of x.now)) tail true [] s even put in
      let below : s < length b.cells.items = put-below defs a b (star (ty_of x.now)) tail true [] s put in
      let late : length a.rows.items ≤ s = omega (arith, even, put.state) in
      let at_end : i ≡ length w.edges.items = at ∙ ap length (sym e) in
      record {
        even = even_b;
        more = Row s i ∷ (Read x s ∷ []);
        tasks = k ∙ append_assoc v.tasks.items (Row s i ∷ []) (Read x s ∷ []);
        come = record {
          ready = ready_on defs (length a.rows.items) (length defs) a b (ty_of x.now) rx ab;
          labels = labels_on defs (length a.rows.items) a b (ty_of x.now) lx ab;
          there = below;
          meets = λ c edges g l. record {
            late = late;
            there = omega (arith, below, even_b, g.longer);
            within = omega (arith, at_end, length-append w.edges.items edges);
            meets = λ d set. record {
              grows = grows_set (length a.rows.items) s a c d true (drop i (w.edges.items ++ edges)) late (grows_on a b c ab g) set;
              more = edges;
              edges = ap (λ l. l ++ edges) e;
              linear = linear_star defs a b c d (ty_of x.now) tail s edges (drop i (w.edges.items ++ edges)) even there lx put g l set (drop_own w.edges.items edges i at_end);
            };
          };
        };
        fewer = λ f is. omega arith;
      }

  pub opens_name : (x : ℕ) (y : Bor Tree) → IsGood defs → body_of defs x ≡ Some (ty_of y.now) → Ready (length defs) a.cells.items (ty_of y.now) → w.tasks.items ≡ v.tasks.items ++ Read y tail ∷ [] → w.edges.items ≡ v.edges.items → Opens defs (named x) tail a v a w
  opens_name x y good body ry k e = record {
    even = even;
    more = Read y tail ∷ [];
    tasks = k;
    come = record {
      ready = ry;
      labels = λ n h. inl (x, ty_of y.now, body, h);
      there = there;
      meets = λ b more g l. record { grows = g; more = more; edges = ap (λ l. l ++ more) e; linear = linear_name defs a b x (ty_of y.now) tail more body l };
    };
    fewer = λ f is. omega (arith, is good x (ty_of y.now) body);
  }

pub opens_as : (defs : Definitions) (t u : Ty) (tail : ℕ) (a b : Table) (v w : Work) → u ≡ t → Opens defs t tail a v b w → Opens defs u tail a v b w
opens_as defs t u tail a b v w e o = subst (λ x. Opens defs x tail a v b w) (sym e) o

-- ---- the loop

-- what is done and what is still to be done come to the edges of the type
pub record Runs (defs : Definitions) (nullable : List Bool) (a : Table) (t : Ty) (tail : ℕ) (b : Table) (tasks : List Task) (es : List Edge) : Type 0 where
  pub grows : Grows (length a.rows.items) a b
  pub ground : IsGround defs nullable b
  pub come : AllCome defs (length a.rows.items) tasks (λ c all. Linear defs a c t tail all) b es

module _ (defs : Definitions) (nullable : List Bool) (a : Table) (tail : ℕ) where
  pub runs_begin : (x : Bor Tree) (tasks : List Task) (es : List Edge) → IsGround defs nullable a → Ready (length defs) a.cells.items (ty_of x.now) → LabelsStand defs a.cells.items (ty_of x.now) → tail < length a.cells.items → tasks ≡ Read x tail ∷ [] → es ≡ [] → Runs defs nullable a (ty_of x.now) tail a tasks es
  runs_begin x tasks es g r ls lt k e = record {
    grows = grows_same (length a.rows.items) a (omega arith);
    ground = g;
    come =
        let aim : Table → List Edge → Type 0 = λ c all. Linear defs a c (ty_of x.now) tail all in
        subst (λ l. AllCome defs (length a.rows.items) l aim a es) (sym k)
        (subst (λ l. Comes defs (length a.rows.items) (Read x tail) aim a l) (sym e) (record { ready = r; labels = ls; there = lt; meets = λ b more h l. l }));
  }

  module _ (t : Ty) (b : Table) (all rest : List Task) (es : List Edge) (k : Task) (runs : Runs defs nullable a t tail b all es) (is : all ≡ rest ++ k ∷ []) where
    abbrev aim : Table → List Edge → Type 0
    aim c all = Linear defs a c t tail all

    abbrev floor : ℕ
    floor = length a.rows.items

    -- what the last task comes to
    last_comes : Comes defs floor k (AllCome defs floor rest aim) b es
    last_comes = all_split defs floor rest (k ∷ []) aim b es (subst (λ l. AllCome defs floor l aim b es) is runs.come)

    pub comes_read : (x : Bor Tree) (i : ℕ) → k ≡ Read x i → ComesType defs (ty_of x.now) i (AllCome defs floor rest aim) b es
    comes_read x i read = subst (λ j. Comes defs floor j (AllCome defs floor rest aim) b es) read last_comes

    pub comes_first : (p : Pair) → k ≡ First p → ComesFirst defs (ty_of p.left.now) (ty_of p.right.now) p.next p.from (AllCome defs floor rest aim) b es
    comes_first p first = subst (λ j. Comes defs floor j (AllCome defs floor rest aim) b es) first last_comes

    pub comes_row : (s i : ℕ) → k ≡ Row s i → ComesRow floor s i (AllCome defs floor rest aim) b es
    comes_row s i row = subst (λ j. Comes defs floor j (AllCome defs floor rest aim) b es) row last_comes

    pub runs_read : (x : Bor Tree) (i : ℕ) (c : Table) (v w : Work) → k ≡ Read x i → v.tasks.items ≡ rest → v.edges.items ≡ es → Grows (length b.rows.items) b c → Opens defs (ty_of x.now) i b v c w → Runs defs nullable a t tail c w.tasks.items w.edges.items
    runs_read x i c v w read vk ve g o =
        let come = comes_read x i read in
        record {
          grows = grows_by floor (length b.rows.items) a b c runs.grows.longer runs.grows g;
          ground = ground_on defs nullable (length b.rows.items) b c runs.ground g (omega (arith, come.there)) o.even;
          come = subst (λ l. AllCome defs floor l aim c w.edges.items) (sym (o.tasks ∙ ap (λ l. l ++ o.more) vk))
              (all_join defs floor rest o.more aim c w.edges.items
              (all_weaker defs (length b.rows.items) floor o.more (HasRead defs (ty_of x.now) i b v.edges.items) (AllCome defs floor rest aim) runs.grows.longer
              (λ d l h. subst (AllCome defs floor rest aim d) (ap (λ j. j ++ h.more) (sym ve) ∙ sym h.edges) (come.meets d h.more h.grows h.linear)) c w.edges.items o.come));
        }

    pub read_effort : (f : ℕ → ℕ) (x : Bor Tree) (i : ℕ) (c : Table) (v w : Work) → IsEffort defs f → k ≡ Read x i → v.tasks.items ≡ rest → Opens defs (ty_of x.now) i b v c w → all_effort f w.tasks.items < all_effort f all
    read_effort f x i c v w effort_is read vk o =
        omega (arith, ap (all_effort f) (o.tasks ∙ ap (λ l. l ++ o.more) vk), all_effort-append f rest o.more, o.fewer f effort_is, ap (all_effort f) is, all_effort-append f rest (k ∷ []), ap (task_effort f) read)

    pub runs_second : (p : Pair) (c : Table) (v w : Work) → k ≡ First p → v.tasks.items ≡ rest → v.edges.items ≡ es → Grows (length b.rows.items) b c → PutsSecond nullable p b v c w → Runs defs nullable a t tail c w.tasks.items w.edges.items
    runs_second p c v w first vk ve g o =
        let come = comes_first p first in
        let left = ty_of p.left.now in
        let right = ty_of p.right.now in
        let ends = is_nullable (has nullable) right in
        let nulls = is_nullable (has nullable) left in
        let put : Put b c right p.next ends (drop p.from es) o.state = subst (λ l. Put b c right p.next ends (drop p.from l) o.state) ve o.put in
        let edges : w.edges.items ≡ cond nulls es (take p.from es) = o.edges ∙ ap (λ l. cond nulls l (take p.from l)) ve in
        record {
          grows = grows_by floor (length b.rows.items) a b c runs.grows.longer runs.grows g;
          ground = ground_on defs nullable (length b.rows.items) b c runs.ground g (omega (arith, come.there)) (put-even b c right p.next ends (drop p.from es) o.state runs.ground.even put);
          come = subst (λ l. AllCome defs floor l aim c w.edges.items) (sym (o.tasks ∙ ap (λ l. l ++ Read p.left o.state ∷ []) vk))
              (all_join defs floor rest (Read p.left o.state ∷ []) aim c w.edges.items (record {
                ready = ready_on defs (length b.rows.items) (length defs) b c left come.ready g;
                labels = labels_on defs (length b.rows.items) b c left come.labels g;
                there = put-below defs b c right p.next ends (drop p.from es) o.state put;
                meets = λ d first h l.
                    subst (λ j. AllCome defs floor rest aim d (j ++ first)) (sym edges)
                    (come.meets c d o.state ends nulls first put (null_iff defs nullable runs.ground.tells ends right refl) (null_iff defs nullable runs.ground.tells nulls left refl) h l);
              }));
        }

    pub second_effort : (f : ℕ → ℕ) (p : Pair) (c : Table) (v w : Work) → k ≡ First p → v.tasks.items ≡ rest → PutsSecond nullable p b v c w → all_effort f w.tasks.items < all_effort f all
    second_effort f p c v w first vk o =
        omega (arith, ap (all_effort f) (o.tasks ∙ ap (λ l. l ++ Read p.left o.state ∷ []) vk), all_effort-append f rest (Read p.left o.state ∷ []), ap (all_effort f) is, all_effort-append f rest (k ∷ []), ap (task_effort f) first)

    pub runs_row : (s i : ℕ) (c : Table) → k ≡ Row s i → IsSet b c s true (drop i es) → Runs defs nullable a t tail c rest es
    runs_row s i c row set =
        let come = comes_row s i row in
        let same : Grows floor b c = grows_set floor s b b c true (drop i es) come.late (grows_same floor b runs.grows.longer) set in
        record {
          grows = grows_set floor s a b c true (drop i es) come.late runs.grows set;
          ground = ground_on defs nullable floor b c runs.ground same (omega (arith, come.there, runs.ground.even)) (set.same_length ∙ runs.ground.even ∙ ap length (sym set.cells));
          come = come.meets c set;
        }

    pub row_effort : (f : ℕ → ℕ) (s i : ℕ) → k ≡ Row s i → all_effort f rest < all_effort f all
    row_effort f s i row = omega (arith, ap (all_effort f) is, all_effort-append f rest (k ∷ []), ap (task_effort f) row)
