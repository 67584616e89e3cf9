-- The parts of types, by what they begin with.
use Rattle.std.proofs.Common.{◌≡◌, List, [], ◌∷◌, true, false, cond, Some, refl, ap, ◌∙◌}
use Rattle.lang_base.specs.Refused.{IfRefused}
use Rattle.lang_base.specs.declared.place.Place.{Place}
use Rattle.lang_base.specs.declared.refusal.Stop.{Stop}
use Rattle.syntax_tokens.specs.declared.token.Keyword.{Keyword}
use Rattle.syntax_tokens.specs.declared.token.Symbol.{Symbol}
use Rattle.syntax_tokens.specs.declared.terminal.Placed.{Placed}
use Rattle.syntax_tokens.specs.declared.terminal.Terminal.{Terminal}
use Rattle.syntax_tokens.specs.declared.terminal.Terminal.TheVariants as terminal
use Rattle.syntax_grammar.specs.Taking.{Next}
use Rattle.syntax_grammar.specs.Expecting.{Part, one, part, base_parts, choose, next_of, next_is}
use Rattle.syntax_grammar.specs.Words.{is_boolean, is_close_bracket, is_greater, is_hash, is_int, is_less, is_name, is_open_bracket}
use Rattle.syntax_grammar.specs.Limits.{Counts, Fits, anew, inside, more, Within, nothing, Refuses}
use Rattle.syntax_exprs.specs.Counted.{Halts}
use Rattle.syntax_exprs.proofs.Composed.{seq, read_part}
use Rattle.syntax_exprs.proofs.Coming.{read_any, symbol_comes_not, next_comes, comes_next, halted_keyword}
use Rattle.syntax_exprs.proofs.InOrder.{few_read, joined_read, next_read, this_one, that_one, read_one, read_two, read_three, refused_at_first, refused_at_second, refused_at_third, Onward, onward_more, onward_refused, onward_end}

-- a type counts anew
pub type_reads : {c d e f : Counts} {a b g : List Placed} → Within (anew c) (part Part.base ∷ []) a d b → Within d (part Part.suffixes ∷ []) b e g →
    f.level ≡ c.level → f.joined ≡ c.joined → Within c (part Part.type ∷ []) a f g
type_reads {c = c} {f = f} v w level joined =
    let same : f ≡ c = ap (λ n. record { level = n; joined = f.joined }) level ∙ ap (λ n. record { level = c.level; joined = n }) joined in
    rw same (read_part _ _ Part.type _ _ _ refl (seq v w))

pub type_at_base : (c : Counts) (a : List Placed) (end : Place) (stop : Stop) → IfRefused stop (Refuses (anew c) (part Part.base ∷ []) a end) →
    IfRefused stop (Refuses c (part Part.type ∷ []) a end)
type_at_base c a end stop r = refused_at_first c Part.type _ _ a end stop refl r

pub type_at_suffixes : (c d : Counts) (a b : List Placed) (end later : Place) (stop : Stop) → Within (anew c) (part Part.base ∷ []) a d b → later ≡ end →
    IfRefused stop (Refuses d (part Part.suffixes ∷ []) b later) → IfRefused stop (Refuses c (part Part.type ∷ []) a end)
type_at_suffixes c d a b end later stop w is r = refused_at_second c d Part.type _ _ _ a b end later stop refl w is r

-- "int", "boolean" or a class
base_int : {here : List Placed} → Next (terminal.Keyword Keyword.Int) here → choose Part.base (next_of here) ≡ Some (one is_int ∷ [])
base_int n = rw (n.takes.takes.first) refl

base_boolean : {here : List Placed} → Next (terminal.Keyword Keyword.Boolean) here → choose Part.base (next_of here) ≡ Some (one is_boolean ∷ [])
base_boolean n = rw (n.takes.takes.first) refl

class_parts : (t : Terminal) → (t ≡ terminal.Keyword Keyword.Int → ⊥) → (t ≡ terminal.Keyword Keyword.Boolean → ⊥) → base_parts t ≡ one is_name ∷ part Part.args_if ∷ []
class_parts (terminal.Keyword Keyword.Int) no_int no_boolean = absurd (no_int refl)
class_parts (terminal.Keyword Keyword.Boolean) no_int no_boolean = absurd (no_boolean refl)
class_parts _ no_int no_boolean = refl

base_class : (here : List Placed) → (Next (terminal.Keyword Keyword.Int) here → ⊥) → (Next (terminal.Keyword Keyword.Boolean) here → ⊥) →
    choose Part.base (next_of here) ≡ Some (one is_name ∷ part Part.args_if ∷ [])
base_class [] no_int no_boolean = refl
base_class (next ∷ after) no_int no_boolean = rw (class_parts next.terminal (λ e. no_int (comes_next e)) (λ e. no_boolean (comes_next e))) refl

pub base_reads_int : {c d : Counts} {a b : List Placed} {next : Placed} → Next (terminal.Keyword Keyword.Int) a → a ≡ next ∷ b → Fits c → d ≡ c →
    Within c (part Part.base ∷ []) a d b
base_reads_int {next = next} t is fits same = let e : next.terminal ≡ terminal.Keyword Keyword.Int = let f = t.takes.takes.first in cc in
    read_one _ _ _ Part.base _ _ _ (base_int t) (read_any is (rw e refl) fits (rw (e, same) refl)) refl

pub base_reads_boolean : {c d : Counts} {a b : List Placed} {next : Placed} → Next (terminal.Keyword Keyword.Boolean) a → a ≡ next ∷ b → Fits c → d ≡ c →
    Within c (part Part.base ∷ []) a d b
base_reads_boolean {next = next} t is fits same = let e : next.terminal ≡ terminal.Keyword Keyword.Boolean = let f = t.takes.takes.first in cc in
    read_one _ _ _ Part.base _ _ _ (base_boolean t) (read_any is (rw e refl) fits (rw (e, same) refl)) refl

pub base_reads_class : {c d e : Counts} {a b g : List Placed} → (Next (terminal.Keyword Keyword.Int) a → ⊥) → (Next (terminal.Keyword Keyword.Boolean) a → ⊥) →
    Within c (one is_name ∷ []) a d b → Within d (part Part.args_if ∷ []) b e g → Within c (part Part.base ∷ []) a e g
base_reads_class no_int no_boolean v w = read_two _ _ _ _ Part.base _ _ _ _ _ (base_class _ no_int no_boolean) v w refl

pub base_halts_int : (c : Counts) (a : List Placed) (end : Place) (stop : Stop) → Next (terminal.Keyword Keyword.Int) a → IfRefused stop (Halts c a end) →
    IfRefused stop (Refuses c (part Part.base ∷ []) a end)
base_halts_int c a end stop n h = refused_at_first c Part.base _ _ a end stop (base_int n) (halted_keyword Keyword.Int a end c stop n h)

pub base_halts_boolean : (c : Counts) (a : List Placed) (end : Place) (stop : Stop) → Next (terminal.Keyword Keyword.Boolean) a → IfRefused stop (Halts c a end) →
    IfRefused stop (Refuses c (part Part.base ∷ []) a end)
base_halts_boolean c a end stop n h = refused_at_first c Part.base _ _ a end stop (base_boolean n) (halted_keyword Keyword.Boolean a end c stop n h)

pub base_at_name : (c : Counts) (a : List Placed) (end : Place) (stop : Stop) → (Next (terminal.Keyword Keyword.Int) a → ⊥) → (Next (terminal.Keyword Keyword.Boolean) a → ⊥) →
    IfRefused stop (Refuses c (one is_name ∷ []) a end) → IfRefused stop (Refuses c (part Part.base ∷ []) a end)
base_at_name c a end stop no_int no_boolean r = refused_at_first c Part.base _ _ a end stop (base_class a no_int no_boolean) r

pub base_at_args : (c d : Counts) (a b : List Placed) (end later : Place) (stop : Stop) → (Next (terminal.Keyword Keyword.Int) a → ⊥) → (Next (terminal.Keyword Keyword.Boolean) a → ⊥) →
    Within c (one is_name ∷ []) a d b → later ≡ end → IfRefused stop (Refuses d (part Part.args_if ∷ []) b later) → IfRefused stop (Refuses c (part Part.base ∷ []) a end)
base_at_args c d a b end later stop no_int no_boolean w is r = refused_at_second c d Part.base _ _ _ a b end later stop (base_class a no_int no_boolean) w is r

-- each pair of brackets is one more suffix
more_inside : (d : Counts) (b : List Placed) → next_is is_open_bracket (next_of b) ≡ true → inside Part.suffixes (next_of b) d ≡ more d
more_inside d b is = ap (λ found. cond found (more d) d) is

pub suffixes_begin : {c : Counts} {a : List Placed} → Onward c (part Part.suffixes ∷ []) a c (part Part.suffixes ∷ []) a
suffixes_begin = record { reads = λ e after w. w; stops = λ k here s. s }

pub suffixes_on : {c d e f h : Counts} {a b g i j : List Placed} → Onward c (part Part.suffixes ∷ []) a d (part Part.suffixes ∷ []) b →
    Within (more d) (one is_open_bracket ∷ []) b e g → Within e (one is_close_bracket ∷ []) g f i → Within f (part Part.brackets_after ∷ []) i h j →
    Onward c (part Part.suffixes ∷ []) a h (part Part.suffixes ∷ []) j
suffixes_on {d = d} {b = b} so_far first_bracket second_bracket w =
    onward_more (one is_open_bracket ∷ one is_close_bracket ∷ part Part.brackets_after ∷ []) Part.suffixes so_far (this_one _ _ (next_read first_bracket))
    (rw (more_inside d b (next_read first_bracket)) (seq first_bracket (seq second_bracket w))) (λ f. refl)

pub suffixes_end : {c d : Counts} {a b : List Placed} → Onward c (part Part.suffixes ∷ []) a d (part Part.suffixes ∷ []) b → (Next (terminal.Symbol Symbol.OpenBracket) b → ⊥) →
    Within c (part Part.suffixes ∷ []) a d b
suffixes_end {d = d} {b = b} so_far none =
    let away : next_is is_open_bracket (next_of b) ≡ false = symbol_comes_not Symbol.OpenBracket b none in
    onward_end Part.suffixes so_far (that_one _ _ away) (ap (λ found. cond found (more d) d) away) (λ f. refl) refl refl

pub suffixes_at_open : (c d : Counts) (a b : List Placed) (end later : Place) (stop : Stop) → Onward c (part Part.suffixes ∷ []) a d (part Part.suffixes ∷ []) b → later ≡ end →
    Next (terminal.Symbol Symbol.OpenBracket) b → IfRefused stop (Refuses (more d) (one is_open_bracket ∷ []) b later) → IfRefused stop (Refuses c (part Part.suffixes ∷ []) a end)
suffixes_at_open c d a b end later stop so_far same n r =
    let some : next_is is_open_bracket (next_of b) ≡ true = next_comes Symbol.OpenBracket b n in
    onward_refused c d _ _ a b end later stop so_far same
    (refused_at_first d Part.suffixes _ _ b later stop (this_one _ _ some) (rw (more_inside d b some) r))

pub suffixes_at_close : (c d e : Counts) (a b g : List Placed) (end first later : Place) (stop : Stop) → Onward c (part Part.suffixes ∷ []) a d (part Part.suffixes ∷ []) b →
    first ≡ end → Within (more d) (one is_open_bracket ∷ []) b e g → later ≡ first → IfRefused stop (Refuses e (one is_close_bracket ∷ []) g later) →
    IfRefused stop (Refuses c (part Part.suffixes ∷ []) a end)
suffixes_at_close c d e a b g end first later stop so_far same first_bracket at r =
    onward_refused c d _ _ a b end first stop so_far same
    (refused_at_second d e Part.suffixes _ _ _ b g first later stop (this_one _ _ (next_read first_bracket)) (rw (more_inside d b (next_read first_bracket)) first_bracket) at r)

pub suffixes_at_rest : (c d e f : Counts) (a b g i : List Placed) (end first middle later : Place) (stop : Stop) →
    Onward c (part Part.suffixes ∷ []) a d (part Part.suffixes ∷ []) b → first ≡ end → Within (more d) (one is_open_bracket ∷ []) b e g → middle ≡ first →
    Within e (one is_close_bracket ∷ []) g f i → later ≡ middle → IfRefused stop (Refuses f (part Part.brackets_after ∷ []) i later) →
    IfRefused stop (Refuses c (part Part.suffixes ∷ []) a end)
suffixes_at_rest c d e f a b g i end first middle later stop so_far same first_bracket at second_bracket is r =
    onward_refused c d _ _ a b end first stop so_far same
    (refused_at_third d e f Part.suffixes _ _ _ _ b g i first middle later stop (this_one _ _ (next_read first_bracket)) (rw (more_inside d b (next_read first_bracket)) first_bracket) at second_bracket is r)

-- [ "<" path ">" ] [ "#" name ]
pub after_brackets_reads : {c d e : Counts} {a b g : List Placed} → Within c (part Part.region_if ∷ []) a d b → Within d (part Part.index_if ∷ []) b e g →
    Within c (part Part.brackets_after ∷ []) a e g
after_brackets_reads v w = read_two _ _ _ _ Part.brackets_after _ _ _ _ _ refl v w refl

pub after_brackets_at_region : (c : Counts) (a : List Placed) (end : Place) (stop : Stop) → IfRefused stop (Refuses c (part Part.region_if ∷ []) a end) →
    IfRefused stop (Refuses c (part Part.brackets_after ∷ []) a end)
after_brackets_at_region c a end stop r = refused_at_first c Part.brackets_after _ _ a end stop refl r

pub after_brackets_at_index : (c d : Counts) (a b : List Placed) (end later : Place) (stop : Stop) → Within c (part Part.region_if ∷ []) a d b → later ≡ end →
    IfRefused stop (Refuses d (part Part.index_if ∷ []) b later) → IfRefused stop (Refuses c (part Part.brackets_after ∷ []) a end)
after_brackets_at_index c d a b end later stop w is r = refused_at_second c d Part.brackets_after _ _ _ a b end later stop refl w is r

pub region_if_none : {c d : Counts} {a b : List Placed} → (Next (terminal.Symbol Symbol.Less) a → ⊥) → d ≡ c → b ≡ a → Within c (part Part.region_if ∷ []) a d b
region_if_none {c = c} {a = a} none same at = rw (same, at) (read_part c c Part.region_if [] a a (that_one _ _ (symbol_comes_not Symbol.Less a none)) nothing)

pub region_if_some : {c d e f : Counts} {a b g i : List Placed} → Within c (one is_less ∷ []) a d b → Within d (part Part.path ∷ []) b e g → Within e (one is_greater ∷ []) g f i →
    Within c (part Part.region_if ∷ []) a f i
region_if_some u v w = read_three _ _ _ _ _ Part.region_if _ _ _ _ _ _ _ (this_one _ _ (next_read u)) u v w refl

pub region_if_at_open : (c : Counts) (a : List Placed) (end : Place) (stop : Stop) → Next (terminal.Symbol Symbol.Less) a → IfRefused stop (Refuses c (one is_less ∷ []) a end) →
    IfRefused stop (Refuses c (part Part.region_if ∷ []) a end)
region_if_at_open c a end stop n r = refused_at_first c Part.region_if _ _ a end stop (this_one _ _ (next_comes Symbol.Less a n)) r

pub region_if_at_path : (c d : Counts) (a b : List Placed) (end later : Place) (stop : Stop) → Within c (one is_less ∷ []) a d b → later ≡ end →
    IfRefused stop (Refuses d (part Part.path ∷ []) b later) → IfRefused stop (Refuses c (part Part.region_if ∷ []) a end)
region_if_at_path c d a b end later stop w is r = refused_at_second c d Part.region_if _ _ _ a b end later stop (this_one _ _ (next_read w)) w is r

pub region_if_at_close : (c d e : Counts) (a b g : List Placed) (end first later : Place) (stop : Stop) → Within c (one is_less ∷ []) a d b → first ≡ end →
    Within d (part Part.path ∷ []) b e g → later ≡ first → IfRefused stop (Refuses e (one is_greater ∷ []) g later) → IfRefused stop (Refuses c (part Part.region_if ∷ []) a end)
region_if_at_close c d e a b g end first later stop w is v same r =
    refused_at_third c d e Part.region_if _ _ _ _ a b g end first later stop (this_one _ _ (next_read w)) w is v same r

pub index_if_none : {c d : Counts} {a b : List Placed} → (Next (terminal.Symbol Symbol.Hash) a → ⊥) → d ≡ c → b ≡ a → Within c (part Part.index_if ∷ []) a d b
index_if_none {c = c} {a = a} none same at = rw (same, at) (read_part c c Part.index_if [] a a (that_one _ _ (symbol_comes_not Symbol.Hash a none)) nothing)

pub index_if_some : {c d e : Counts} {a b g : List Placed} → Within c (one is_hash ∷ []) a d b → Within d (one is_name ∷ []) b e g → Within c (part Part.index_if ∷ []) a e g
index_if_some v w = read_two _ _ _ _ Part.index_if _ _ _ _ _ (this_one _ _ (next_read v)) v w refl

pub index_if_at_hash : (c : Counts) (a : List Placed) (end : Place) (stop : Stop) → Next (terminal.Symbol Symbol.Hash) a → IfRefused stop (Refuses c (one is_hash ∷ []) a end) →
    IfRefused stop (Refuses c (part Part.index_if ∷ []) a end)
index_if_at_hash c a end stop n r = refused_at_first c Part.index_if _ _ a end stop (this_one _ _ (next_comes Symbol.Hash a n)) r

pub index_if_at_name : (c d : Counts) (a b : List Placed) (end later : Place) (stop : Stop) → Within c (one is_hash ∷ []) a d b → later ≡ end →
    IfRefused stop (Refuses d (one is_name ∷ []) b later) → IfRefused stop (Refuses c (part Part.index_if ∷ []) a end)
index_if_at_name c d a b end later stop w is r = refused_at_second c d Part.index_if _ _ _ a b end later stop (this_one _ _ (next_read w)) w is r

-- what each function reads and refuses
pub ruleset ty_reading = (type_reads, type_at_base, type_at_suffixes)

pub ruleset base_reading = (base_reads_int, base_reads_boolean, base_reads_class, base_halts_int, base_halts_boolean, base_at_name, base_at_args, joined_read)

pub ruleset suffixes_reading = (suffixes_begin, suffixes_on, suffixes_end, suffixes_at_open, suffixes_at_close, suffixes_at_rest, few_read)

pub ruleset after_brackets_reading = (after_brackets_reads, after_brackets_at_region, after_brackets_at_index)

pub ruleset region_if_reading = (region_if_none, region_if_some, region_if_at_open, region_if_at_path, region_if_at_close, joined_read)

pub ruleset index_if_reading = (index_if_none, index_if_some, index_if_at_hash, index_if_at_name, joined_read)
