-- The parts of region parameters, by what they begin with.
use Rattle.std.proofs.Common.{◌≡◌, List, [], ◌∷◌, ◌||◌, true, false, refl}
use Rattle.lang_base.specs.Refused.{IfRefused}
use Rattle.lang_base.specs.declared.place.Place.{Place}
use Rattle.lang_base.specs.declared.refusal.Stop.{Stop}
use Rattle.syntax_tokens.specs.declared.token.Keyword.{Keyword}
use Rattle.syntax_tokens.specs.declared.token.Symbol.{Symbol}
use Rattle.syntax_tokens.specs.declared.terminal.Placed.{Placed}
use Rattle.syntax_tokens.specs.declared.terminal.Terminal.TheVariants as terminal
use Rattle.syntax_grammar.specs.Taking.{Next}
use Rattle.syntax_grammar.specs.Expecting.{Part, Expected, one, part, next_of, next_is}
use Rattle.syntax_grammar.specs.Words.{is_atomic, is_bar, is_comma, is_greater, is_hash, is_less, is_name, is_region}
use Rattle.syntax_grammar.specs.Limits.{Counts, Within, nothing, Refuses}
use Rattle.syntax_exprs.proofs.Composed.{seq, stops_after, read_part, refused_part, refused_first}
use Rattle.syntax_exprs.proofs.Coming.{symbol_comes_not, keyword_comes_not, next_comes, keyword_comes}
use Rattle.syntax_exprs.proofs.InOrder.{next_read, this_one, that_one, both, refused_in_list, refused_after_list, read_one, read_two, read_three, refused_at_first, refused_later, refused_at_second, refused_at_third, Onward, onward_more, onward_refused, onward_end, IsMore, listed_on, listed_end, listed_at_comma, listed_at_item, after_first}

-- { "," constraint }
pub more_constraints : IsMore Part.more_constraints (part Part.constraint)
more_constraints = record { chooses = λ next. refl; enters = λ next c. refl; leaves = λ c d. refl }

pub constraints_end : {c d e : Counts} {a b g : List Placed} → Onward c (part Part.constraint ∷ part Part.more_constraints ∷ []) a d (part Part.more_constraints ∷ []) b → (Next (terminal.Symbol Symbol.Comma) b → ⊥) → e ≡ d → g ≡ b →
    Within c (part Part.constraint ∷ part Part.more_constraints ∷ []) a e g
constraints_end so_far none same at = listed_end more_constraints so_far none same at

pub constraints_at_comma : (c d : Counts) (a b : List Placed) (end later : Place) (stop : Stop) → Onward c (part Part.constraint ∷ part Part.more_constraints ∷ []) a d (part Part.more_constraints ∷ []) b → later ≡ end →
    Next (terminal.Symbol Symbol.Comma) b → IfRefused stop (Refuses d (one is_comma ∷ []) b later) → IfRefused stop (Refuses c (part Part.constraint ∷ part Part.more_constraints ∷ []) a end)
constraints_at_comma c d a b end later stop so_far same n r = listed_at_comma c d _ a b end later stop Part.more_constraints _ more_constraints so_far same n r

pub constraints_at_item : (c d e : Counts) (a b g : List Placed) (end first later : Place) (stop : Stop) → Onward c (part Part.constraint ∷ part Part.more_constraints ∷ []) a d (part Part.more_constraints ∷ []) b → first ≡ end →
    Within d (one is_comma ∷ []) b e g → later ≡ first → IfRefused stop (Refuses e (part Part.constraint ∷ []) g later) → IfRefused stop (Refuses c (part Part.constraint ∷ part Part.more_constraints ∷ []) a end)
constraints_at_item c d e a b g end first later stop so_far same comma at r = listed_at_item c d e _ a b g end first later stop Part.more_constraints _ more_constraints so_far same comma at r

pub constraints_at_first : (c : Counts) (a : List Placed) (end : Place) (stop : Stop) → IfRefused stop (Refuses c (part Part.constraint ∷ []) a end) →
    IfRefused stop (Refuses c (part Part.constraint ∷ part Part.more_constraints ∷ []) a end)
constraints_at_first c a end stop r = refused_first c _ _ a end stop r

-- [ "atomic" ] "region"
pub kind_plain : {c d e : Counts} {a b g : List Placed} → (Next (terminal.Keyword Keyword.Atomic) a → ⊥) → e ≡ c → g ≡ a → Within e (one is_region ∷ []) g d b →
    Within c (part Part.kind ∷ []) a d b
kind_plain {c = c} {a = a} none same at w =
    read_two c c _ _ Part.kind _ _ a a _ refl (read_part c c Part.atomic_if [] a a (that_one _ _ (keyword_comes_not Keyword.Atomic a none)) nothing) (rw (same, at) at w) refl

pub kind_atomic : {c d e : Counts} {a b g : List Placed} → Within c (one is_atomic ∷ []) a d b → Within d (one is_region ∷ []) b e g → Within c (part Part.kind ∷ []) a e g
kind_atomic v w = read_two _ _ _ _ Part.kind _ _ _ _ _ refl (read_one _ _ _ Part.atomic_if _ _ _ (this_one _ _ (next_read v)) v refl) w refl

pub kind_at_atomic : (c : Counts) (a : List Placed) (end : Place) (stop : Stop) → Next (terminal.Keyword Keyword.Atomic) a → IfRefused stop (Refuses c (one is_atomic ∷ []) a end) →
    IfRefused stop (Refuses c (part Part.kind ∷ []) a end)
kind_at_atomic c a end stop n r =
    refused_at_first c Part.kind _ _ a end stop refl (refused_at_first c Part.atomic_if _ _ a end stop (this_one _ _ (keyword_comes Keyword.Atomic a n)) r)

pub kind_at_region : (c d : Counts) (a b : List Placed) (end later : Place) (stop : Stop) → (Next (terminal.Keyword Keyword.Atomic) a → ⊥) → d ≡ c → b ≡ a → later ≡ end →
    IfRefused stop (Refuses d (one is_region ∷ []) b later) → IfRefused stop (Refuses c (part Part.kind ∷ []) a end)
kind_at_region c d a b end later stop none same at is r =
    refused_at_second c c Part.kind _ _ _ a a end end stop refl (read_part c c Part.atomic_if [] a a (that_one _ _ (keyword_comes_not Keyword.Atomic a none)) nothing) refl
    (rw (same, at, is) at r)

pub kind_at_region_after : (c d : Counts) (a b : List Placed) (end later : Place) (stop : Stop) → Within c (one is_atomic ∷ []) a d b → later ≡ end →
    IfRefused stop (Refuses d (one is_region ∷ []) b later) → IfRefused stop (Refuses c (part Part.kind ∷ []) a end)
kind_at_region_after c d a b end later stop w is r =
    refused_at_second c d Part.kind _ _ _ a b end later stop refl (read_one _ _ _ Part.atomic_if _ _ _ (this_one _ _ (next_read w)) w refl) is r

-- [ Kind ]
pub kind_if_none : {c : Counts} {a : List Placed} → (next_is is_atomic (next_of a) || next_is is_region (next_of a)) ≡ false → Within c (part Part.kind_if ∷ []) a c a
kind_if_none none = read_part _ _ Part.kind_if [] _ _ (that_one _ _ none) nothing

pub kind_if_some : {c d : Counts} {a b : List Placed} → (next_is is_atomic (next_of a) || next_is is_region (next_of a)) ≡ true → Within c (part Part.kind ∷ []) a d b →
    Within c (part Part.kind_if ∷ []) a d b
kind_if_some some w = read_one _ _ _ Part.kind_if _ _ _ (this_one _ _ some) w refl

pub kind_if_at : (c : Counts) (a : List Placed) (end : Place) (stop : Stop) → (next_is is_atomic (next_of a) || next_is is_region (next_of a)) ≡ true →
    IfRefused stop (Refuses c (part Part.kind ∷ []) a end) → IfRefused stop (Refuses c (part Part.kind_if ∷ []) a end)
kind_if_at c a end stop some r = refused_at_first c Part.kind_if _ _ a end stop (this_one _ _ some) r

-- path "#" path
pub constraint_reads : {c d e f : Counts} {a b g i : List Placed} →
    Within c (part Part.path ∷ []) a d b → Within d (one is_hash ∷ []) b e g → Within e (part Part.path ∷ []) g f i → Within c (part Part.constraint ∷ []) a f i
constraint_reads u v w = read_three _ _ _ _ _ Part.constraint _ _ _ _ _ _ _ refl u v w refl

pub constraint_at_left : (c : Counts) (a : List Placed) (end : Place) (stop : Stop) → IfRefused stop (Refuses c (part Part.path ∷ []) a end) →
    IfRefused stop (Refuses c (part Part.constraint ∷ []) a end)
constraint_at_left c a end stop r = refused_at_first c Part.constraint _ _ a end stop refl r

pub constraint_at_hash : (c d : Counts) (a b : List Placed) (end later : Place) (stop : Stop) → Within c (part Part.path ∷ []) a d b → later ≡ end →
    IfRefused stop (Refuses d (one is_hash ∷ []) b later) → IfRefused stop (Refuses c (part Part.constraint ∷ []) a end)
constraint_at_hash c d a b end later stop w is r = refused_at_second c d Part.constraint _ _ _ a b end later stop refl w is r

pub constraint_at_right : (c d e : Counts) (a b g : List Placed) (end first later : Place) (stop : Stop) → Within c (part Part.path ∷ []) a d b → first ≡ end →
    Within d (one is_hash ∷ []) b e g → later ≡ first → IfRefused stop (Refuses e (part Part.path ∷ []) g later) → IfRefused stop (Refuses c (part Part.constraint ∷ []) a end)
constraint_at_right c d e a b g end first later stop v is w same r = refused_at_third c d e Part.constraint _ _ _ _ a b g end first later stop refl v is w same r

-- [ "|" constraint { "," constraint } ]
pub given_none : {c d : Counts} {a b : List Placed} → (Next (terminal.Symbol Symbol.Bar) a → ⊥) → d ≡ c → b ≡ a → Within c (part Part.given ∷ []) a d b
given_none {c = c} {a = a} none same at = rw (same, at) (read_part c c Part.given [] a a (that_one _ _ (symbol_comes_not Symbol.Bar a none)) nothing)

pub given_some : {c d e : Counts} {a b g : List Placed} → Within c (one is_bar ∷ []) a d b → Within d (part Part.constraint ∷ part Part.more_constraints ∷ []) b e g →
    Within c (part Part.given ∷ []) a e g
given_some v w = read_part _ _ Part.given _ _ _ (this_one _ _ (next_read v)) (seq v w)

pub given_at_bar : (c : Counts) (a : List Placed) (end : Place) (stop : Stop) → Next (terminal.Symbol Symbol.Bar) a → IfRefused stop (Refuses c (one is_bar ∷ []) a end) →
    IfRefused stop (Refuses c (part Part.given ∷ []) a end)
given_at_bar c a end stop n r = refused_at_first c Part.given _ _ a end stop (this_one _ _ (next_comes Symbol.Bar a n)) r

pub given_at_constraints : (c d : Counts) (a b : List Placed) (end later : Place) (stop : Stop) → Within c (one is_bar ∷ []) a d b → later ≡ end →
    IfRefused stop (Refuses d (part Part.constraint ∷ part Part.more_constraints ∷ []) b later) → IfRefused stop (Refuses c (part Part.given ∷ []) a end)
given_at_constraints c d a b end later stop w is r =
    refused_part c Part.given _ a end stop (this_one _ _ (next_read w)) (refused_later c d _ (part Part.constraint) (part Part.more_constraints ∷ []) a b end later stop w is r)

-- kind name { "," [ kind ] name }
pub declared_begin : {c d e : Counts} {a b g : List Placed} → Within c (part Part.kind ∷ []) a d b → Within d (one is_name ∷ []) b e g →
    Onward c (part Part.kind ∷ one is_name ∷ part Part.more_declared ∷ []) a e (part Part.more_declared ∷ []) g
declared_begin v w = record { reads = λ e after u. seq v (seq w u); stops = λ k here s. stops_after v (stops_after w s) }

pub declared_at_kind : (c : Counts) (a : List Placed) (end : Place) (stop : Stop) → IfRefused stop (Refuses c (part Part.kind ∷ []) a end) →
    IfRefused stop (Refuses c (part Part.kind ∷ one is_name ∷ part Part.more_declared ∷ []) a end)
declared_at_kind c a end stop r = refused_first c _ _ a end stop r

pub declared_at_name : (c d : Counts) (a b : List Placed) (end later : Place) (stop : Stop) → Within c (part Part.kind ∷ []) a d b → later ≡ end →
    IfRefused stop (Refuses d (one is_name ∷ []) b later) → IfRefused stop (Refuses c (part Part.kind ∷ one is_name ∷ part Part.more_declared ∷ []) a end)
declared_at_name c d a b end later stop w is r = refused_later c d _ (one is_name) _ a b end later stop w is (refused_first d _ _ b later stop r)

pub declared_on : {c d e f h : Counts} {xs : List Expected} {a b g i j : List Placed} → Onward c xs a d (part Part.more_declared ∷ []) b →
    Within d (one is_comma ∷ []) b e g → Within e (part Part.kind_if ∷ []) g f i → Within f (one is_name ∷ []) i h j → Onward c xs a h (part Part.more_declared ∷ []) j
declared_on so_far comma v w =
    onward_more (one is_comma ∷ part Part.kind_if ∷ one is_name ∷ []) Part.more_declared so_far (this_one _ _ (next_read comma)) (seq comma (seq v w)) (λ f. refl)

pub declared_end : {c d e : Counts} {a b g : List Placed} → Onward c (part Part.kind ∷ one is_name ∷ part Part.more_declared ∷ []) a d (part Part.more_declared ∷ []) b →
    (Next (terminal.Symbol Symbol.Comma) b → ⊥) → e ≡ d → g ≡ b → Within c (part Part.kind ∷ one is_name ∷ part Part.more_declared ∷ []) a e g
declared_end {b = b} so_far none same at = onward_end Part.more_declared so_far (that_one _ _ (symbol_comes_not Symbol.Comma b none)) refl (λ f. refl) same at

pub declared_at_comma : (c d : Counts) (a b : List Placed) (end later : Place) (stop : Stop) → Onward c (part Part.kind ∷ one is_name ∷ part Part.more_declared ∷ []) a d (part Part.more_declared ∷ []) b → later ≡ end →
    Next (terminal.Symbol Symbol.Comma) b → IfRefused stop (Refuses d (one is_comma ∷ []) b later) → IfRefused stop (Refuses c (part Part.kind ∷ one is_name ∷ part Part.more_declared ∷ []) a end)
declared_at_comma c d a b end later stop so_far same n r =
    onward_refused c d _ _ a b end later stop so_far same (refused_at_first d Part.more_declared _ _ b later stop (this_one _ _ (next_comes Symbol.Comma b n)) r)

pub declared_at_next_kind : (c d e : Counts) (a b g : List Placed) (end first later : Place) (stop : Stop) → Onward c (part Part.kind ∷ one is_name ∷ part Part.more_declared ∷ []) a d (part Part.more_declared ∷ []) b →
    first ≡ end → Within d (one is_comma ∷ []) b e g → later ≡ first → IfRefused stop (Refuses e (part Part.kind_if ∷ []) g later) → IfRefused stop (Refuses c (part Part.kind ∷ one is_name ∷ part Part.more_declared ∷ []) a end)
declared_at_next_kind c d e a b g end first later stop so_far same comma at r =
    onward_refused c d _ _ a b end first stop so_far same (refused_at_second d e Part.more_declared _ _ _ b g first later stop (this_one _ _ (next_read comma)) comma at r)

pub declared_at_next_name : (c d e f : Counts) (a b g i : List Placed) (end first middle later : Place) (stop : Stop) →
    Onward c (part Part.kind ∷ one is_name ∷ part Part.more_declared ∷ []) a d (part Part.more_declared ∷ []) b → first ≡ end → Within d (one is_comma ∷ []) b e g → middle ≡ first → Within e (part Part.kind_if ∷ []) g f i → later ≡ middle →
    IfRefused stop (Refuses f (one is_name ∷ []) i later) → IfRefused stop (Refuses c (part Part.kind ∷ one is_name ∷ part Part.more_declared ∷ []) a end)
declared_at_next_name c d e f a b g i end first middle later stop so_far same comma at w is r =
    onward_refused c d _ _ a b end first stop so_far same
    (refused_at_third d e f Part.more_declared _ _ _ _ b g i first middle later stop (this_one _ _ (next_read comma)) comma at w is r)

-- [ "<" declared given ">" ]
pub params_none : {c : Counts} {a : List Placed} → (Next (terminal.Symbol Symbol.Less) a → ⊥) → Within c (part Part.params_if ∷ []) a c a
params_none {a = a} none = read_part _ _ Part.params_if [] _ _ (that_one _ _ (symbol_comes_not Symbol.Less a none)) nothing

pub params_some : {c d : Counts} {a b : List Placed} → Next (terminal.Symbol Symbol.Less) a → Within c (part Part.params ∷ []) a d b → Within c (part Part.params_if ∷ []) a d b
params_some {a = a} n w = read_one _ _ _ Part.params_if _ _ _ (this_one _ _ (next_comes Symbol.Less a n)) w refl

pub params_if_at : (c : Counts) (a : List Placed) (end : Place) (stop : Stop) → Next (terminal.Symbol Symbol.Less) a → IfRefused stop (Refuses c (part Part.params ∷ []) a end) →
    IfRefused stop (Refuses c (part Part.params_if ∷ []) a end)
params_if_at c a end stop n r = refused_at_first c Part.params_if _ _ a end stop (this_one _ _ (next_comes Symbol.Less a n)) r

pub params_reads : {c d e f h : Counts} {a b g i j : List Placed} → Within c (one is_less ∷ []) a d b → Within d (part Part.kind ∷ one is_name ∷ part Part.more_declared ∷ []) b e g →
    Within e (part Part.given ∷ []) g f i → Within f (one is_greater ∷ []) i h j → Within c (part Part.params ∷ []) a h j
params_reads t u v w = read_part _ _ Part.params _ _ _ refl (seq t (both u (seq v w)))

pub params_at_open : (c : Counts) (a : List Placed) (end : Place) (stop : Stop) → IfRefused stop (Refuses c (one is_less ∷ []) a end) →
    IfRefused stop (Refuses c (part Part.params ∷ []) a end)
params_at_open c a end stop r = refused_at_first c Part.params _ _ a end stop refl r

params_later : (c d : Counts) (ys : List Expected) (a b : List Placed) (end later : Place) (stop : Stop) → Within c (one is_less ∷ []) a d b → later ≡ end →
    ys ≡ part Part.kind ∷ one is_name ∷ part Part.more_declared ∷ part Part.given ∷ one is_greater ∷ [] →
    IfRefused stop (Refuses d ys b later) → IfRefused stop (Refuses c (part Part.params ∷ []) a end)
params_later c d ys a b end later stop w is same r =
    refused_part c Part.params _ a end stop refl
    (refused_later c d _ (part Part.kind) (one is_name ∷ part Part.more_declared ∷ part Part.given ∷ one is_greater ∷ []) a b end later stop w is (rw same at r))

pub params_at_declared : (c d : Counts) (a b : List Placed) (end later : Place) (stop : Stop) → Within c (one is_less ∷ []) a d b → later ≡ end →
    IfRefused stop (Refuses d (part Part.kind ∷ one is_name ∷ part Part.more_declared ∷ []) b later) → IfRefused stop (Refuses c (part Part.params ∷ []) a end)
params_at_declared c d a b end later stop w is r =
    params_later c d _ a b end later stop w is refl (refused_in_list d _ (part Part.given ∷ one is_greater ∷ []) b later stop r)

pub params_at_given : (c d e : Counts) (a b g : List Placed) (end first later : Place) (stop : Stop) → Within c (one is_less ∷ []) a d b → first ≡ end →
    Within d (part Part.kind ∷ one is_name ∷ part Part.more_declared ∷ []) b e g → later ≡ first → IfRefused stop (Refuses e (part Part.given ∷ []) g later) →
    IfRefused stop (Refuses c (part Part.params ∷ []) a end)
params_at_given c d e a b g end first later stop w is v same r =
    params_later c d _ a b end first stop w is refl
    (refused_after_list d e _ (part Part.given ∷ one is_greater ∷ []) b g first later stop v same (refused_first e _ _ g later stop r))

pub params_at_close : (c d e f : Counts) (a b g i : List Placed) (end first middle later : Place) (stop : Stop) → Within c (one is_less ∷ []) a d b → first ≡ end →
    Within d (part Part.kind ∷ one is_name ∷ part Part.more_declared ∷ []) b e g → middle ≡ first → Within e (part Part.given ∷ []) g f i → later ≡ middle →
    IfRefused stop (Refuses f (one is_greater ∷ []) i later) → IfRefused stop (Refuses c (part Part.params ∷ []) a end)
params_at_close c d e f a b g i end first middle later stop w is v same u at r =
    params_later c d _ a b end first stop w is refl
    (refused_after_list d e _ (part Part.given ∷ one is_greater ∷ []) b g first middle stop v same (refused_later e f _ (one is_greater) [] g i middle later stop u at r))

pub begins_atomic : (here : List Placed) → Next (terminal.Keyword Keyword.Atomic) here → true ≡ (next_is is_atomic (next_of here) || next_is is_region (next_of here))
begins_atomic here n = rw (keyword_comes Keyword.Atomic here n) refl

pub begins_region : (here : List Placed) → Next (terminal.Keyword Keyword.Region) here → true ≡ (next_is is_atomic (next_of here) || next_is is_region (next_of here))
begins_region here n = rw (n.takes.takes.first) refl

pub begins_no_kind : (here : List Placed) → (Next (terminal.Keyword Keyword.Atomic) here → ⊥) → (Next (terminal.Keyword Keyword.Region) here → ⊥) →
    false ≡ (next_is is_atomic (next_of here) || next_is is_region (next_of here))
begins_no_kind here no_atomic no_region = rw (keyword_comes_not Keyword.Atomic here no_atomic, keyword_comes_not Keyword.Region here no_region) refl

-- what each function reads and refuses
pub ruleset params_if_reading = (params_none, params_some, params_if_at)

pub ruleset params_reading = (params_reads, params_at_open, params_at_declared, params_at_given, params_at_close)

pub ruleset declared_reading = (declared_begin, declared_at_kind, declared_at_name, declared_on, declared_end, declared_at_comma, declared_at_next_kind, declared_at_next_name)

pub ruleset begins_kind_reading = (begins_atomic, begins_region, begins_no_kind)

pub ruleset kind_reading = (kind_plain, kind_atomic, kind_at_atomic, kind_at_region, kind_at_region_after)

pub ruleset kind_or_reading = (kind_if_none, kind_if_some, kind_if_at)

pub ruleset given_reading = (given_none, given_some, given_at_bar, given_at_constraints)

pub ruleset constraints_reading = (more_constraints, after_first, listed_on, constraints_end, constraints_at_comma, constraints_at_item, constraints_at_first)

pub ruleset constraint_reading = (constraint_reads, constraint_at_left, constraint_at_hash, constraint_at_right)
