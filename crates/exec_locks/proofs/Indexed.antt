-- Every block stays found through changes of the index and of the map.
use Rattle.std.proofs.Common.{◌≡◌, ◌≢◌, ℕ, ◌+◌, ◌<◌, length, drop, get_or, Bool, true, false, cond, List, [], ◌∷◌, refl, sym, ap, subst, ◌∙◌, MatchBool, Option, Some, None, true≢false, is_some}
use Rattle.std.specs.Ordering.{nat_cmp, eq_by_cmp}
use Rattle.std.specs.Cmp.{nat_cmp_total, Equal-is, tied_itself}
use Rattle.std.specs.FinMap.{get, insert, remove, empty, get-insert, get-remove, get-empty, nat_cmp-IsAntisymmetric}
use Rattle.std.proofs.lemmas.List.{drop_more}
use Rattle.lang_base.specs.declared.elems.Elem.{Elem}
use Rattle.lang_base.specs.declared.effect.Access.{Access}
use Rattle.lang_base.specs.declared.effect.Access.TheVariants.{Read, Write}
use Rattle.lang_base.specs.declared.effect.Effect.{Effect}
use Rattle.lang_base.specs.Matching.{is_concrete}
use Rattle.exec_locks.specs.declared.index.Index.{Index}
use Rattle.exec_locks.specs.declared.standing.Standing.{Standing}
use Rattle.exec_locks.specs.declared.standing.Standing.TheVariants.{Opener, Adopted}
use Rattle.exec_locks.specs.Index.{has, first_number, mixed, NotedFrom, NotedBy, AllNoted, IsFound, IsIndexed, IsGrown, KeepsOthers}
use Rattle.exec_locks.specs.Locks.{Standings, AllRoot, deepened, deepened_from, is_inner, shallower, exited, exited_from}
use Rattle.exec_locks.proofs.Maps.{same_standings}

-- nothing less of one task
pub record Keeps (q : ℕ) (old new : Index) : Type 0 where
  pub under : (k : ℕ) → has old.under k q ≡ true → has new.under k q ≡ true
  pub ending : (k : ℕ) → has old.ending k q ≡ true → has new.ending k q ≡ true

pub keeps_itself : (q : ℕ) (ix : Index) → Keeps q ix ix
keeps_itself q ix = record { under = λ k h. h; ending = λ k h. h }

pub keeps_on : (q : ℕ) (a b c : Index) → Keeps q a b → Keeps q b c → Keeps q a c
keeps_on q a b c one two = record { under = λ k h. two.under k (one.under k h); ending = λ k h. two.ending k (one.ending k h) }

pub grown_keeps : (q : ℕ) (old new : Index) → IsGrown old new → Keeps q old new
grown_keeps q old new grown = record { under = λ k h. grown.under k q h; ending = λ k h. grown.ending k q h }

pub others_kept : (task q : ℕ) (old new : Index) → q ≢ task → KeepsOthers task old new → Keeps q old new
others_kept task q old new apart kept = record { under = λ k h. kept.under k q apart h; ending = λ k h. kept.ending k q apart h }

noted_match : (old new : Index) (q n : ℕ) (x : Elem) (xs : List Elem) (b : Bool) → Keeps q old new
    → (NotedFrom old.under old.ending q (mixed n x) xs → NotedFrom new.under new.ending q (mixed n x) xs)
    → MatchBool b ((has old.under n q ≡ true) × NotedFrom old.under old.ending q (mixed n x) xs) (has old.ending n q ≡ true)
    → MatchBool b ((has new.under n q ≡ true) × NotedFrom new.under new.ending q (mixed n x) xs) (has new.ending n q ≡ true)
noted_match old new q n x xs true keeps more noted = (keeps.under n noted.0, more noted.1)
noted_match old new q n x xs false keeps more noted = keeps.ending n noted

noted_kept : (old new : Index) (q n : ℕ) (xs : List Elem) → Keeps q old new → NotedFrom old.under old.ending q n xs → NotedFrom new.under new.ending q n xs
noted_kept old new q n [] keeps noted = keeps.ending n noted
noted_kept old new q n (x ∷ xs) keeps noted =
    noted_match old new q n x xs (is_concrete x) keeps (noted_kept old new q (mixed n x) xs keeps) noted

by_kept : (r w r' w' : Index) (q : ℕ) (a : Access) (xs : List Elem) → Keeps q r r' → Keeps q w w' → NotedBy r w q a xs → NotedBy r' w' q a xs
by_kept r w r' w' q Read xs kr kw noted = noted_kept r r' q first_number xs kr noted
by_kept r w r' w' q Write xs kr kw noted = noted_kept w w' q first_number xs kw noted

all_kept : (r w r' w' : Index) (q : ℕ) (fs : List Effect) → Keeps q r r' → Keeps q w w' → AllNoted r w q fs → AllNoted r' w' q fs
all_kept r w r' w' q [] kr kw noted = tt
all_kept r w r' w' q (f ∷ fs) kr kw noted = (by_kept r w r' w' q f.access f.rpl.elems kr kw noted.0, all_kept r w r' w' q fs kr kw noted.1)

found_kept : (r w r' w' : Index) (q : ℕ) (o : Option Standing) → Keeps q r r' → Keeps q w w' → IsFound r w q o → IsFound r' w' q o
found_kept r w r' w' q None kr kw found = tt
found_kept r w r' w' q (Some (Opener effects depth)) kr kw found = (found.0, all_kept r w r' w' q effects kr kw found.1)
found_kept r w r' w' q (Some (Adopted opener depth)) kr kw found = tt

itself : (k : ℕ) → eq_by_cmp nat_cmp k k ≡ true
itself k = (Equal-is (nat_cmp k k)).1 (tied_itself nat_cmp_total k)

apart_from : (q k : ℕ) → eq_by_cmp nat_cmp q k ≡ false → q ≢ k
apart_from q k no_tie same = true≢false (sym (ap (λ n. eq_by_cmp nat_cmp n k) same ∙ itself k) ∙ no_tie)

at_choice : (P : ℕ → Option Standing → Type 0) (q k : ℕ) (b : Bool) (here there : Option Standing) → eq_by_cmp nat_cmp q k ≡ b → P k here → (q ≢ k
    → P q there) → P q (cond b here there)
at_choice P q k true here there tie at beside = subst (λ n. P n here) (sym (nat_cmp-IsAntisymmetric q k ((Equal-is (nat_cmp q k)).0 tie))) at
at_choice P q k false here there tie at beside = beside (apart_from q k tie)

pub indexed_inserted : (r w r' w' : Index) (locks : Standings) (k : ℕ) (s : Standing) → IsFound r' w' k (Some s)
    → ((q : ℕ) → q ≢ k → Keeps q r r') → ((q : ℕ) → q ≢ k → Keeps q w w') → IsIndexed r w locks → IsIndexed r' w' (insert locks k s)
indexed_inserted r w r' w' locks k s found kr kw indexed q =
    subst (IsFound r' w' q) (sym (get-insert nat_cmp_total locks k s q))
    (at_choice (IsFound r' w') q k (eq_by_cmp nat_cmp q k) (Some s) (get locks q) refl found (λ apart. found_kept r w r' w' q (get locks q) (kr q apart)
    (kw q apart) (indexed q)))

pub indexed_removed : (r w r' w' : Index) (locks : Standings) (k : ℕ)
    → ((q : ℕ) → q ≢ k → Keeps q r r') → ((q : ℕ) → q ≢ k → Keeps q w w') → IsIndexed r w locks → IsIndexed r' w' (remove locks k)
indexed_removed r w r' w' locks k kr kw indexed q =
    subst (IsFound r' w' q) (sym (get-remove nat_cmp_total locks k q))
    (at_choice (IsFound r' w') q k (eq_by_cmp nat_cmp q k) None (get locks q) refl tt (λ apart. found_kept r w r' w' q (get locks q) (kr q apart)
    (kw q apart) (indexed q)))

pub indexed_empty : (r w : Index) → IsIndexed r w empty
indexed_empty r w q = subst (IsFound r w q) (sym (get-empty nat_cmp q)) tt

found_deepened : (r w : Index) (q : ℕ) (s : Standing) → IsFound r w q (Some s) → IsFound r w q (Some (deepened s))
found_deepened r w q (Opener effects depth) found = found
found_deepened r w q (Adopted opener depth) found = tt

found_shallower : (r w : Index) (q : ℕ) (s : Standing) → IsFound r w q (Some s) → IsFound r w q (Some (shallower s))
found_shallower r w q (Opener effects depth) found = found
found_shallower r w q (Adopted opener depth) found = tt

deepened_at : (r w : Index) (locks : Standings) (k : ℕ) (o : Option Standing) → get locks k ≡ o → IsIndexed r w locks → IsIndexed r w (deepened_from locks k o)
deepened_at r w locks k None is indexed = indexed
deepened_at r w locks k (Some s) is indexed =
    indexed_inserted r w r w locks k (deepened s) (found_deepened r w k s (subst (IsFound r w k) is (indexed k))) (λ q apart. keeps_itself q r)
    (λ q apart. keeps_itself q w) indexed

pub indexed_deepened : (r w : Index) (locks : Standings) (k : ℕ) → IsIndexed r w locks → IsIndexed r w (deepened_from locks k (get locks k))
indexed_deepened r w locks k indexed = deepened_at r w locks k (get locks k) refl indexed

exited_choice : (r w : Index) (locks : Standings) (k : ℕ) (s : Standing) (b : Bool) → IsFound r w k (Some s) → IsIndexed r w locks
    → IsIndexed r w (cond b (insert locks k (shallower s)) (remove locks k))
exited_choice r w locks k s true found indexed =
    indexed_inserted r w r w locks k (shallower s) (found_shallower r w k s found) (λ q apart. keeps_itself q r) (λ q apart. keeps_itself q w) indexed
exited_choice r w locks k s false found indexed = indexed_removed r w r w locks k (λ q apart. keeps_itself q r) (λ q apart. keeps_itself q w) indexed

exited_at : (r w : Index) (locks : Standings) (k : ℕ) (o : Option Standing) → get locks k ≡ o → IsIndexed r w locks → IsIndexed r w (exited_from locks k o)
exited_at r w locks k None is indexed = indexed
exited_at r w locks k (Some s) is indexed = exited_choice r w locks k s (is_inner s) (subst (IsFound r w k) is (indexed k)) indexed

pub indexed_exited : (r w : Index) (locks : Standings) (k : ℕ) → IsIndexed r w locks → IsIndexed r w (exited locks k)
indexed_exited r w locks k indexed = exited_at r w locks k (get locks k) refl indexed

pub get_inserted : (locks : Standings) (k : ℕ) (s : Standing) → get (insert locks k s) k ≡ Some s
get_inserted locks k s = get-insert nat_cmp_total locks k s k ∙ ap (λ b. cond b (Some s) (get locks k)) (itself k)

pub taken_back : (locks : Standings) (k : ℕ) (s : Standing) → get locks k ≡ None → remove (insert locks k s) k ≡ locks
taken_back locks k s absent =
    same_standings (remove (insert locks k s) k) locks (λ q. get-remove nat_cmp_total (insert locks k s) k q ∙ at q (eq_by_cmp nat_cmp q k) refl)
  where
    at : (q : ℕ) (b : Bool) → eq_by_cmp nat_cmp q k ≡ b → cond b None (get (insert locks k s) q) ≡ get locks q
    at q true tie = sym absent ∙ ap (get locks) (sym (nat_cmp-IsAntisymmetric q k ((Equal-is (nat_cmp q k)).0 tie)))
    at q false tie = get-insert nat_cmp_total locks k s q ∙ ap (λ b. cond b (Some s) (get locks q)) tie

pub none_inside : (o : Option Standing) → is_some o ≡ false → o ≡ None
none_inside None is = refl
none_inside (Some s) is = cc

-- whatever is noted of the rest of the effects is noted of all
abbrev pub LeadsOn : Index → Index → ℕ → List Effect → List Effect → Type 0
LeadsOn reads writes task rest all = (r w : Index) → Keeps task reads r → Keeps task writes w → AllNoted r w task rest → AllNoted r w task all

pub leads_one_on : (reads writes reads' writes' : Index) (task i : ℕ) (e : Effect) (all : List Effect) → i < length all → e ≡ get_or all i e
    → NotedBy reads' writes' task e.access e.rpl.elems → Keeps task reads reads' → Keeps task writes writes'
    → LeadsOn reads writes task (drop i all) all → LeadsOn reads' writes' task (drop (i + 1) all) all
leads_one_on reads writes reads' writes' task i e all lt at noted kr kw leads r w kr' kw' rest =
    leads r w (keeps_on task reads reads' r kr kr') (keeps_on task writes writes' w kw kw')
    (subst (AllNoted r w task) (ap (λ f. f ∷ drop (i + 1) all) at ∙ sym (drop_more all i e lt))
    (by_kept reads' writes' r w task e.access e.rpl.elems kr' kw' noted, rest))

pub grown_on : (a b c : Index) → IsGrown a b → IsGrown b c → IsGrown a c
grown_on a b c one two = record { under = λ k q h. two.under k q (one.under k q h); ending = λ k q h. two.ending k q (one.ending k q h) }

pub removed_absent : (locks : Standings) (k : ℕ) → get locks k ≡ None → remove locks k ≡ locks
removed_absent locks k absent =
    same_standings (remove locks k) locks (λ q. get-remove nat_cmp_total locks k q ∙ at q (eq_by_cmp nat_cmp q k) refl)
  where
    at : (q : ℕ) (b : Bool) → eq_by_cmp nat_cmp q k ≡ b → cond b None (get locks q) ≡ get locks q
    at q true tie = sym absent ∙ ap (get locks) (sym (nat_cmp-IsAntisymmetric q k ((Equal-is (nat_cmp q k)).0 tie)))
    at q false tie = refl

-- noted and forgotten again
pub indexed_back : (r w r1 w1 r2 w2 : Index) (locks : Standings) (k : ℕ) → get locks k ≡ None → IsGrown r r1 → IsGrown w w1
    → KeepsOthers k r1 r2 → KeepsOthers k w1 w2 → IsIndexed r w locks → IsIndexed r2 w2 locks
indexed_back r w r1 w1 r2 w2 locks k absent gr gw kr kw indexed =
    subst (IsIndexed r2 w2) (removed_absent locks k absent)
    (indexed_removed r w r2 w2 locks k
    (λ q apart. keeps_on q r r1 r2 (grown_keeps q r r1 gr) (others_kept k q r1 r2 apart kr))
    (λ q apart. keeps_on q w w1 w2 (grown_keeps q w w1 gw) (others_kept k q w1 w2 apart kw)) indexed)

-- a block that was noted
pub indexed_block : (r w r1 w1 : Index) (locks : Standings) (k : ℕ) (wants effects : List Effect) → AllRoot wants → effects ≡ wants → AllNoted r1 w1 k effects
    → IsGrown r r1 → IsGrown w w1 → IsIndexed r w locks → IsIndexed r1 w1 (insert locks k (Opener wants 1))
indexed_block r w r1 w1 locks k wants effects roots is noted gr gw indexed =
    indexed_inserted r w r1 w1 locks k (Opener wants 1) (roots, subst (AllNoted r1 w1 k) is noted)
    (λ q apart. grown_keeps q r r1 gr) (λ q apart. grown_keeps q w w1 gw) indexed
