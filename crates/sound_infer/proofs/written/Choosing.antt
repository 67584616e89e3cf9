-- What is kept of summaries can be written: with the items of the written ones.
use Rattle.std.proofs.Common.{◌≡◌, ◌∙◌, ◌⊎◌, ⊎_elim, inl, inr, ℕ, zero, suc, ◌+◌, ◌<◌, List, [], ◌∷◌, ◌++◌, length, map, slice_get, Option, Some, None, refl, ap, sym, subst, arith}
use Rattle.std.specs.Prelude.{false, Contains, slice_index_or}
use Rattle.std.specs.List.{AllZip, flat_map}
use Rattle.std.proofs.lemmas.List.Elements.{Contains-append_cases, Contains-append_left, Contains-append_right}
use Rattle.std.proofs.lemmas.Option.{none-some, same_Some}
use Rattle.lang_base.specs.declared.effect.Access.{Access}
use Rattle.lang_base.specs.declared.effect.Access.TheVariants.{Read, Write}
use Rattle.lang_base.specs.declared.effect.Effect.{Effect}
use Rattle.lang_base.specs.declared.elems.Elem.TheVariants.{Star}
use Rattle.syntax_tree.specs.declared.class.Class.{Class}
use Rattle.syntax_tree.specs.declared.class.Item.{Item}
use Rattle.syntax_tree.specs.declared.class.Member.{Member}
use Rattle.syntax_tree.specs.declared.class.Member.TheVariants as member
use Rattle.syntax_tree.specs.declared.class.Program.{Program}
use Rattle.syntax_tree.specs.declared.class.SummaryTree.{SummaryTree}
use Rattle.syntax_tree.specs.declared.region.ElemTree.TheVariants as elem
use Rattle.syntax_tree.specs.declared.region.RplHead.TheVariants as head
use Rattle.lang_typed.specs.Plain.{PlainProgram, PlainMember}
use Rattle.lang_typed.specs.Scope.{member_at}
use Rattle.lang_typed.specs.Statements.{SameEffects}
use Rattle.syntax_means.specs.Declares.{OwnMethod, all_methods, member_methods, methods_from}
use Rattle.syntax_means.specs.Means.{ItemMeans, Means, SummaryMeans, in_method}
use Rattle.syntax_means.specs.Paths.{Around, ElemMeans, HeadMeans, root_path}
use Rattle.body_infer.specs.declared.kept.Kept.{Kept}
use Rattle.body_infer.specs.declared.kept.Kept.TheVariants as kept
use Rattle.body_infer.specs.Kept.{Keeping, SaysOfEach, summary_kept}
use Rattle.sound_infer.specs.Written.{HasItemsOf, HasWrittenItems, IsItemOf, SaysWhatIsKept, class_without, member_without}

-- elements of a list

pub here : {X : Type 0} (x : X) (xs : List X) → Contains (x ∷ xs) x
here x xs = (0, omega arith, refl)

pub later : {X : Type 0} (y : X) (xs : List X) (x : X) → Contains xs x → Contains (y ∷ xs) x
later y xs x c = let l = c.1 in (suc c.0, omega (arith, l), c.2)

pub first_or_later : {X : Type 0} (y : X) (xs : List X) (x : X) → Contains (y ∷ xs) x → (y ≡ x) ⊎ Contains xs x
first_or_later {X} y xs x c = by c.0 c.1 c.2
  where
    by : (k : ℕ) → k < length (y ∷ xs) → slice_index_or (y ∷ xs) k x ≡ x → (y ≡ x) ⊎ Contains xs x
    by zero l e = inl e
    by (suc k) l e = inr (k, omega (arith, l), e)

is_first : {X : Type 0} (y x : X) (xs : List X) → y ≡ x → Contains (y ∷ xs) x
is_first y x xs e = subst (Contains (y ∷ xs)) e (here y xs)

pub zip_find : {X Y : Type 0} (R : X → Y → Type 0) (xs : List X) (ys : List Y) (y : Y) → AllZip R xs ys → Contains ys y → (x : X) × R x y × Contains xs x
zip_find R [] [] y h c = let l = c.1 in absurd (omega (arith, l))
zip_find R [] (z ∷ ys) y h c = absurd h
zip_find R (x ∷ xs) [] y h c = absurd h
zip_find R (x ∷ xs) (z ∷ ys) y h c = ⊎_elim (λ e. (x, subst (R x) e h.0, here x xs)) (λ more. (let w = zip_find R xs ys y h.1 more in (w.0, w.1, later x xs w.0 w.2))) (first_or_later z ys y c)

module _ (A : Around) (old : Option SummaryTree) where
  -- an item of the summary that means the effect, and one for each of these
  abbrev Writable : Effect → Type 0
  Writable e = (item : Item) × ItemMeans A e.access item e × IsItemOf old item

  abbrev AllWritable : List Effect → Type 0
  AllWritable [] = Unit {0}
  AllWritable (e ∷ es) = Writable e × AllWritable es

  writable_in : (access : Access) (item : Item) (e : Effect) → ItemMeans A access item e → IsItemOf old item → Writable e
  writable_in access item e m of = (item, subst (λ a. ItemMeans A a item e) (sym (ap (λ (d : Effect). d.access) m.is)) m, of)

  each_writable : (es : List Effect) → ((e : Effect) → Contains es e → Writable e) → AllWritable es
  each_writable [] each = tt
  each_writable (e ∷ es) each = (each e (here e es), each_writable es (λ d c. each d (later e es d c)))

  read_writable : (e : Effect) → Writable e → Writable (record e { access = Read })
  read_writable e w = (w.0, record { path = w.1.path; is = ap (λ (d : Effect). let read : Effect = record d { access = Read } in read) w.1.is }, w.2)

  kept_writable : (ks : List Kept) (es : List Effect) → AllWritable es → AllWritable (summary_kept ks es)
  kept_writable [] es h = tt
  kept_writable (k ∷ ks) [] h = tt
  kept_writable (kept.Nothing ∷ ks) (e ∷ es) h = kept_writable ks es h.1
  kept_writable (kept.Read ∷ ks) (e ∷ es) h = (read_writable e h.0, kept_writable ks es h.1)
  kept_writable (kept.Whole ∷ ks) (e ∷ es) h = (h.0, kept_writable ks es h.1)

  -- items that mean these effects
  record Written (es : List Effect) : Type 0 where
    summary : SummaryTree
    reads : List Effect
    writes : List Effect
    reads_mean : AllZip (ItemMeans A Read) summary.reads reads
    writes_mean : AllZip (ItemMeans A Write) summary.writes writes
    same : SameEffects es (reads ++ writes)
    of : (item : Item) → Contains (summary.reads ++ summary.writes) item → IsItemOf old item

  with_read : (e : Effect) (es : List Effect) (item : Item) → ItemMeans A Read item e → IsItemOf old item → Written es → Written (e ∷ es)
  with_read e es item m is_of w = record {
    summary = record (Written.summary w) { reads = item ∷ (Written.summary w).reads };
    reads = e ∷ w.reads;
    writes = w.writes;
    reads_mean = (m, w.reads_mean);
    writes_mean = w.writes_mean;
    same = λ d. (
      λ c. ⊎_elim (λ q. is_first e d (w.reads ++ w.writes) q) (λ more. later e (w.reads ++ w.writes) d ((Written.same w d).0 more)) (first_or_later e es d c),
      λ c. ⊎_elim (λ q. is_first e d es q) (λ more. later e es d ((Written.same w d).1 more)) (first_or_later e (w.reads ++ w.writes) d c),
    );
    of = λ i c.
        let was = Written.summary w in
        ⊎_elim (λ q. subst (IsItemOf old) q is_of) (λ more. Written.of w i more) (first_or_later item (was.reads ++ was.writes) i c);
  }

  with_write : (e : Effect) (es : List Effect) (item : Item) → ItemMeans A Write item e → IsItemOf old item → Written es → Written (e ∷ es)
  with_write e es item m is_of w = record {
    summary = record (Written.summary w) { writes = item ∷ (Written.summary w).writes };
    reads = w.reads;
    writes = e ∷ w.writes;
    reads_mean = w.reads_mean;
    writes_mean = (m, w.writes_mean);
    same = λ d. (
      λ c. ⊎_elim (λ q. Contains-append_right w.reads (e ∷ w.writes) d (is_first e d w.writes q))
          (λ more. ⊎_elim (λ r. Contains-append_left w.reads (e ∷ w.writes) d r) (λ r. Contains-append_right w.reads (e ∷ w.writes) d (later e w.writes d r))
          (Contains-append_cases w.reads w.writes d ((Written.same w d).0 more)))
          (first_or_later e es d c),
      λ c. ⊎_elim (λ r. later e es d ((Written.same w d).1 (Contains-append_left w.reads w.writes d r)))
          (λ r. ⊎_elim (λ q. is_first e d es q) (λ more. later e es d ((Written.same w d).1 (Contains-append_right w.reads w.writes d more))) (first_or_later e w.writes d r))
          (Contains-append_cases w.reads (e ∷ w.writes) d c),
    );
    of = λ i c.
        let was = Written.summary w in
        ⊎_elim (λ r. Written.of w i (Contains-append_left was.reads was.writes i r))
        (λ r. ⊎_elim (λ q. subst (IsItemOf old) q is_of) (λ more. Written.of w i (Contains-append_right was.reads was.writes i more)) (first_or_later item was.writes i r))
        (Contains-append_cases was.reads (item ∷ was.writes) i c);
  }

  with_item : (e : Effect) (es : List Effect) (item : Item) (access : Access) → ItemMeans A access item e → IsItemOf old item → Written es → Written (e ∷ es)
  with_item e es item Read m is_of w = with_read e es item m is_of w
  with_item e es item Write m is_of w = with_write e es item m is_of w

  write : (es : List Effect) → AllWritable es → Written es
  write [] h = record { summary = record { reads = []; writes = [] }; reads = []; writes = []; reads_mean = tt; writes_mean = tt; same = λ d. (λ c. c, λ c. c); of = λ item c. (let l = c.1 in absurd (omega (arith, l))) }
  write (e ∷ es) h = with_item e es h.0.0 e.access h.0.1 h.0.2 (write es h.1)

-- the effects of a summary have its items
all_writable : (A : Around) (old : Option SummaryTree) (es : List Effect) → SummaryMeans A old es → AllWritable A old es
all_writable A old es SummaryMeans.left_out = (
  (
    record { atomic = false; rpl = record { place = record { line = 0; col = 0 }; head = head.Root; elems = elem.Star ∷ [] } },
    record { path = record { start = root_path; begins = HeadMeans.at_root; elems = Star ∷ []; goes_on = (ElemMeans.a_star, tt); is = refl }; is = refl },
    (refl, refl, refl),
  ),
  tt,
)
all_writable A old es (SummaryMeans.written {summary = summary} reads writes rs ws same) =
    each_writable A (Some summary) es (λ e c.
    ⊎_elim
    (λ r. (let w = zip_find (ItemMeans A Read) summary.reads reads e rs r in
    writable_in A (Some summary) Read w.0 e w.1 (Contains-append_left summary.reads summary.writes w.0 w.2)))
    (λ r. (let w = zip_find (ItemMeans A Write) summary.writes writes e ws r in
    writable_in A (Some summary) Write w.0 e w.1 (Contains-append_right summary.reads summary.writes w.0 w.2)))
    (Contains-append_cases reads writes e ((same e).0 c)))

pub summary_for : (A : Around) (old : Option SummaryTree) (es : List Effect) (ks : List Kept) → SummaryMeans A old es →
    (s : Option SummaryTree) × SummaryMeans A s (summary_kept ks es) × HasItemsOf old s
summary_for A old es ks m =
    let w = write A old (summary_kept ks es) (kept_writable A old ks es (all_writable A old es m)) in (
      Some (Written.summary w),
      SummaryMeans.written w.reads w.writes w.reads_mean w.writes_mean (Written.same w),
      λ summary e item c. Written.of w item (subst (λ (t : SummaryTree). Contains (t.reads ++ t.writes) item) (sym (same_Some (Written.summary w) summary e)) c),
    )

-- a tree with these summaries of its methods and constructors, by their numbers

abbrev pub with_summary : Option SummaryTree → OwnMethod → OwnMethod
with_summary s own = record own { method = record own.method { summary = s } }

abbrev pub members_with : (ℕ → Option SummaryTree) → ℕ → List Member → List Member
members_with f n [] = []
members_with f n (member.Regions is_atomic names ∷ ms) = member.Regions is_atomic names ∷ members_with f n ms
members_with f n (member.Field field ∷ ms) = member.Field field ∷ members_with f n ms
members_with f n (member.Method method ∷ ms) = member.Method (record method { summary = f n }) ∷ members_with f (suc n) ms

abbrev pub classes_with : (ℕ → Option SummaryTree) → ℕ → List Class → List Class
classes_with f n [] = []
classes_with f n (k ∷ ks) = record k { members = members_with f n k.members } ∷ classes_with f (n + length (flat_map (member_methods 0) k.members)) ks

abbrev pub methods_with : (ℕ → Option SummaryTree) → ℕ → List OwnMethod → List OwnMethod
methods_with f n [] = []
methods_with f n (own ∷ more) = with_summary (f n) own ∷ methods_with f (suc n) more

module _ (f : ℕ → Option SummaryTree) where
  methods_in : (c n : ℕ) (ms : List Member) → flat_map (member_methods c) (members_with f n ms) ≡ methods_with f n (flat_map (member_methods c) ms)
  methods_in c n [] = refl
  methods_in c n (member.Regions is_atomic names ∷ ms) = methods_in c n ms
  methods_in c n (member.Field field ∷ ms) = methods_in c n ms
  methods_in c n (member.Method method ∷ ms) = ap (λ rest. with_summary (f n) (record { class = c; method = method }) ∷ rest) (methods_in c (suc n) ms)

  as_many : (c : ℕ) (ms : List Member) → length (flat_map (member_methods 0) ms) ≡ length (flat_map (member_methods c) ms)
  as_many c [] = refl
  as_many c (member.Regions is_atomic names ∷ ms) = as_many c ms
  as_many c (member.Field field ∷ ms) = as_many c ms
  as_many c (member.Method method ∷ ms) = ap suc (as_many c ms)

  both_with : (n : ℕ) (xs ys : List OwnMethod) → methods_with f n xs ++ methods_with f (n + length xs) ys ≡ methods_with f n (xs ++ ys)
  both_with n [] ys = let at : n + 0 ≡ n = omega arith in ap (λ k. methods_with f k ys) at
  both_with n (x ∷ xs) ys =
      let at : n + length (x ∷ xs) ≡ suc n + length xs = omega arith in
      ap (λ k. with_summary (f n) x ∷ (methods_with f (suc n) xs ++ methods_with f k ys)) at ∙ ap (λ rest. with_summary (f n) x ∷ rest) (both_with (suc n) xs ys)

  pub methods_of : (c n : ℕ) (ks : List Class) → methods_from c (classes_with f n ks) ≡ methods_with f n (methods_from c ks)
  methods_of c n [] = refl
  methods_of c n (k ∷ ks) =
      let ms = flat_map (member_methods c) k.members in
      let rest : methods_from (suc c) (classes_with f (n + length (flat_map (member_methods 0) k.members)) ks) ≡ methods_with f (n + length ms) (methods_from (suc c) ks) =
      methods_of (suc c) (n + length (flat_map (member_methods 0) k.members)) ks ∙ ap (λ many. methods_with f (n + many) (methods_from (suc c) ks)) (as_many c k.members) in
      ap (λ first. first ++ methods_from (suc c) (classes_with f (n + length (flat_map (member_methods 0) k.members)) ks)) (methods_in c n k.members)
      ∙ ap (λ more. methods_with f n ms ++ more) rest ∙ both_with n ms (methods_from (suc c) ks)

  pub method_at : (n i : ℕ) (xs : List OwnMethod) (own other : OwnMethod) → slice_get xs i ≡ Some own → slice_get (methods_with f n xs) i ≡ Some other → other.method.summary ≡ f (n + i)
  method_at n i [] own other e g = cc
  method_at n zero (x ∷ xs) own other e g =
      let at : n ≡ n + 0 = omega arith in
      sym (ap (λ (o : OwnMethod). o.method.summary) (same_Some (with_summary (f n) x) other g)) ∙ ap f at
  method_at n (suc i) (x ∷ xs) own other e g =
      let at : suc n + i ≡ n + suc i = omega arith in
      method_at (suc n) i xs own other e g ∙ ap f at

  members_same : (n : ℕ) (ms : List Member) → map member_without (members_with f n ms) ≡ map member_without ms
  members_same n [] = refl
  members_same n (member.Regions is_atomic names ∷ ms) = ap (λ rest. member.Regions is_atomic names ∷ rest) (members_same n ms)
  members_same n (member.Field field ∷ ms) = ap (λ rest. member.Field field ∷ rest) (members_same n ms)
  members_same n (member.Method method ∷ ms) = ap (λ rest. member_without (member.Method method) ∷ rest) (members_same (suc n) ms)

  pub classes_same : (n : ℕ) (ks : List Class) → map class_without (classes_with f n ks) ≡ map class_without ks
  classes_same n [] = refl
  classes_same n (k ∷ ks) =
      let many = n + length (flat_map (member_methods 0) k.members) in
      ap (λ ms. record k { members = ms } ∷ map class_without (classes_with f many ks)) (members_same n k.members) ∙ ap (λ rest. class_without k ∷ rest) (classes_same many ks)

module _ (tree : Program) (P : PlainProgram) (S : Keeping) (means : Means tree P) where
  abbrev Chosen : ℕ → Option SummaryTree → Type 0
  Chosen n s = (own : OwnMethod) (class : Class) (m : PlainMember) (ks : List Kept) → slice_get (all_methods tree) n ≡ Some own → slice_get tree.classes own.class ≡ Some class →
      member_at P n ≡ Some m → slice_get S n ≡ Some ks → SummaryMeans (in_method tree P class own) s (summary_kept ks m.summary)

  chosen_same : (n : ℕ) (s : Option SummaryTree) (own : OwnMethod) (class : Class) (m : PlainMember) (ks : List Kept) → slice_get (all_methods tree) n ≡ Some own →
      slice_get tree.classes own.class ≡ Some class → member_at P n ≡ Some m → slice_get S n ≡ Some ks → SummaryMeans (in_method tree P class own) s (summary_kept ks m.summary) → Chosen n s
  chosen_same n s own class m ks e st f g says own' class' m' ks' e' st' f' g' =
      let o : own ≡ own' = same_Some own own' (sym e ∙ e') in
      let k : class ≡ class' = same_Some class class' (sym st ∙ ap (λ (x : OwnMethod). slice_get tree.classes x.class) o ∙ st') in
      subst (λ x. SummaryMeans (in_method tree P class' own') s (summary_kept x m'.summary)) (same_Some ks ks' (sym g ∙ g'))
      (subst (λ (x : PlainMember). SummaryMeans (in_method tree P class' own') s (summary_kept ks x.summary)) (same_Some m m' (sym f ∙ f'))
      (subst (λ x. SummaryMeans (in_method tree P class' x) s (summary_kept ks m.summary)) o (subst (λ x. SummaryMeans (in_method tree P x own) s (summary_kept ks m.summary)) k says)))

  abbrev OfItems : ℕ → Option SummaryTree → Type 0
  OfItems n s = (own : OwnMethod) → slice_get (all_methods tree) n ≡ Some own → HasItemsOf own.method.summary s

  no_items : (n : ℕ) → OfItems n None
  no_items n own e = λ summary q. absurd (none-some summary q)

  choose : (n : ℕ) → (s : Option SummaryTree) × Chosen n s × OfItems n s
  choose n = by (slice_get (all_methods tree) n) (member_at P n) (slice_get S n) refl refl refl
    where
      by : (a : Option OwnMethod) (b : Option PlainMember) (c : Option (List Kept)) → slice_get (all_methods tree) n ≡ a → member_at P n ≡ b → slice_get S n ≡ c →
          (s : Option SummaryTree) × Chosen n s × OfItems n s
      by None b c e f g = (None, λ own class m ks e' st f' g'. absurd (none-some own (sym e ∙ e')), no_items n)
      by (Some own) None c e f g = (None, λ own class m ks e' st f' g'. absurd (none-some m (sym f ∙ f')), no_items n)
      by (Some own) (Some m) None e f g = (None, λ own class m ks e' st f' g'. absurd (none-some ks (sym g ∙ g')), no_items n)
      by (Some own) (Some m) (Some ks) e f g =
          let h = means.members n own m e f in
          let s = summary_for (in_method tree P h.class own) own.method.summary m.summary ks h.summary in
          (s.0, chosen_same n s.0 own h.class m ks e h.stands f g s.1, λ other at. subst (λ (o : OwnMethod). HasItemsOf o.method.summary s.0) (same_Some own other (sym e ∙ at)) s.2)

  pub can_be_written : (new : Program) × SaysWhatIsKept tree new P S × HasWrittenItems tree new
  can_be_written =
      let f = λ (n : ℕ). (choose n).0 in
      let new : Program = record tree { classes = classes_with f 0 tree.classes } in
      let said = λ (n : ℕ) (own other : OwnMethod) (is : slice_get (all_methods tree) n ≡ Some own) (at : slice_get (all_methods new) n ≡ Some other).
      (let zero_more : 0 + n ≡ n = omega arith in
      method_at f 0 n (all_methods tree) own other is (ap (λ xs. slice_get xs n) (sym (methods_of f 0 0 tree.classes)) ∙ at) ∙ ap f zero_more) in (
        new,
        record {
          same = ap (λ ks. record tree { classes = ks }) (classes_same f 0 tree.classes);
          says = λ n own other class m ks is at stands here keeps.
              subst (λ s. SummaryMeans (in_method tree P class own) s (summary_kept ks m.summary)) (sym (said n own other is at)) ((choose n).1 own class m ks is stands here keeps);
        },
        λ n own other is at. subst (HasItemsOf own.method.summary) (sym (said n own other is at)) ((choose n).2 own is),
      )

pub kept_can_be_written : (tree : Program) (P : PlainProgram) (S : Keeping) → SaysOfEach P S → Means tree P → (new : Program) × SaysWhatIsKept tree new P S × HasWrittenItems tree new
kept_can_be_written tree P S says means = can_be_written tree P S means
