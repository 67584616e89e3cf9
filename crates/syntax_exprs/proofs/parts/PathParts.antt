-- The parts of region paths, by what they begin with.
use Rattle.std.proofs.Common.{◌≡◌, ℤ, List, [], ◌∷◌, false, Some, refl, ap, ◌∙◌}
use Rattle.lang_base.specs.Refused.{IfRefused}
use Rattle.lang_base.specs.declared.place.Place.{Place}
use Rattle.lang_base.specs.declared.refusal.Stop.{Stop}
use Rattle.syntax_tokens.specs.declared.token.Keyword.{Keyword}
use Rattle.syntax_tokens.specs.declared.token.Symbol.{Symbol}
use Rattle.syntax_tokens.specs.declared.terminal.Placed.{Placed}
use Rattle.syntax_tokens.specs.declared.terminal.Terminal.{Terminal}
use Rattle.syntax_tokens.specs.declared.terminal.Terminal.TheVariants as terminal
use Rattle.syntax_grammar.specs.Taking.{Next}
use Rattle.syntax_grammar.specs.Expecting.{Part, Expected, one, part, choose, next_of, next_is}
use Rattle.syntax_grammar.specs.Words.{is_close_bracket, is_colon, is_comma, is_dot, is_greater, is_less, is_name, is_number, is_open_bracket, is_question, is_root, is_star}
use Rattle.syntax_grammar.specs.Limits.{Counts, Fits, more, anew, Within, nothing, in_part, Refuses}
use Rattle.syntax_exprs.specs.Counted.{MayCome, Halts}
use Rattle.syntax_exprs.proofs.Composed.{seq, stops_after, read_part, refused_part, refused_first}
use Rattle.syntax_exprs.proofs.Coming.{read_any, symbol_comes_not, keyword_comes_not, next_comes, keyword_comes, comes_next, halted, halted_symbol}
use Rattle.syntax_exprs.proofs.InOrder.{next_read, joined_read, few_read, this_one, that_one, both, refused_in_list, refused_after_list, read_one, read_two, read_three, refused_at_first, refused_later, refused_at_second, refused_at_third, Onward, onward_more, onward_refused, onward_end, IsMore, listed_on, listed_end, listed_at_comma, listed_at_item, after_first}

-- "[" within "]"
pub index_reads : {c d e f : Counts} {a b g i : List Placed} →
    Within c (one is_open_bracket ∷ []) a d b → Within d (part Part.within ∷ []) b e g → Within e (one is_close_bracket ∷ []) g f i → Within c (part Part.index ∷ []) a f i
index_reads u v w = read_three _ _ _ _ _ Part.index _ _ _ _ _ _ _ refl u v w refl

pub index_at_open : (c : Counts) (a : List Placed) (end : Place) (stop : Stop) →
    IfRefused stop (Refuses c (one is_open_bracket ∷ []) a end) → IfRefused stop (Refuses c (part Part.index ∷ []) a end)
index_at_open c a end stop r = refused_at_first c Part.index _ _ a end stop refl r

pub index_at_within : (c d : Counts) (a b : List Placed) (end later : Place) (stop : Stop) → Within c (one is_open_bracket ∷ []) a d b → later ≡ end →
    IfRefused stop (Refuses d (part Part.within ∷ []) b later) → IfRefused stop (Refuses c (part Part.index ∷ []) a end)
index_at_within c d a b end later stop w is r = refused_at_second c d Part.index _ _ _ a b end later stop refl w is r

pub index_at_close : (c d e : Counts) (a b g : List Placed) (end first later : Place) (stop : Stop) → Within c (one is_open_bracket ∷ []) a d b → first ≡ end →
    Within d (part Part.within ∷ []) b e g → later ≡ first → IfRefused stop (Refuses e (one is_close_bracket ∷ []) g later) → IfRefused stop (Refuses c (part Part.index ∷ []) a end)
index_at_close c d e a b g end first later stop v is w same r = refused_at_third c d e Part.index _ _ _ _ a b g end first later stop refl v is w same r

-- a number, a question mark or a name
within_number : {n : ℤ} {here : List Placed} → Next (terminal.Int n) here → choose Part.within (next_of here) ≡ Some (one is_number ∷ [])
within_number n = rw (n.takes.takes.first) refl

within_question : {here : List Placed} → Next (terminal.Symbol Symbol.Question) here → choose Part.within (next_of here) ≡ Some (one is_question ∷ [])
within_question n = rw (n.takes.takes.first) refl

no_number_test : (t : Terminal) → ((n : ℤ) → t ≡ terminal.Int n → ⊥) → is_number t ≡ false
no_number_test (terminal.Name n) none = refl
no_number_test (terminal.Int n) none = absurd (none n refl)
no_number_test (terminal.Text text) none = refl
no_number_test (terminal.Symbol s) none = refl
no_number_test (terminal.Keyword k) none = refl

not_number : (here : List Placed) → ((n : ℤ) → Next (terminal.Int n) here → ⊥) → next_is is_number (next_of here) ≡ false
not_number [] none = refl
not_number (next ∷ after) none = no_number_test next.terminal (λ n e. none n (comes_next e))

within_name : (here : List Placed) → ((n : ℤ) → Next (terminal.Int n) here → ⊥) → (Next (terminal.Symbol Symbol.Question) here → ⊥) → choose Part.within (next_of here) ≡ Some (one is_name ∷ [])
within_name here no_int no_question = rw (not_number here no_int, symbol_comes_not Symbol.Question here no_question) refl

pub within_reads_number : {c d : Counts} {a b : List Placed} {next : Placed} {n : ℤ} → Next (terminal.Int n) a → a ≡ next ∷ b → Fits c → d ≡ c → Within c (part Part.within ∷ []) a d b
within_reads_number {next = next} {n = n} t is fits same = let e : next.terminal ≡ terminal.Int n = let f = t.takes.takes.first in cc in
    read_one _ _ _ Part.within _ _ _ (within_number t) (read_any is (rw e refl) fits (rw (e, same) refl)) refl

pub within_reads_question : {c d : Counts} {a b : List Placed} {next : Placed} → Next (terminal.Symbol Symbol.Question) a → a ≡ next ∷ b → Fits c → d ≡ c → Within c (part Part.within ∷ []) a d b
within_reads_question {next = next} t is fits same = let e : next.terminal ≡ terminal.Symbol Symbol.Question = let f = t.takes.takes.first in cc in
    read_one _ _ _ Part.within _ _ _ (within_question t) (read_any is (rw e refl) fits (rw (e, same) refl)) refl

pub within_reads_name : {c d : Counts} {a b : List Placed} → ((n : ℤ) → Next (terminal.Int n) a → ⊥) → (Next (terminal.Symbol Symbol.Question) a → ⊥) →
    Within c (one is_name ∷ []) a d b → Within c (part Part.within ∷ []) a d b
within_reads_name no_int no_question w = read_one _ _ _ Part.within _ _ _ (within_name _ no_int no_question) w refl

number_may : {n : ℤ} {here : List Placed} → Next (terminal.Int n) here → MayCome is_number here
number_may {n} t next after is = let same : next.terminal ≡ terminal.Int n = let f = t.takes.takes.first in cc in rw same refl

pub within_halts_number : (c : Counts) (a : List Placed) (end : Place) (stop : Stop) {n : ℤ} → Next (terminal.Int n) a → IfRefused stop (Halts c a end) →
    IfRefused stop (Refuses c (part Part.within ∷ []) a end)
within_halts_number c a end stop n h = refused_at_first c Part.within _ _ a end stop (within_number n) (halted is_number a end c stop (number_may n) h)

pub within_halts_question : (c : Counts) (a : List Placed) (end : Place) (stop : Stop) → Next (terminal.Symbol Symbol.Question) a → IfRefused stop (Halts c a end) →
    IfRefused stop (Refuses c (part Part.within ∷ []) a end)
within_halts_question c a end stop n h = refused_at_first c Part.within _ _ a end stop (within_question n) (halted_symbol Symbol.Question a end c stop n h)

pub within_at_name : (c : Counts) (a : List Placed) (end : Place) (stop : Stop) → ((n : ℤ) → Next (terminal.Int n) a → ⊥) → (Next (terminal.Symbol Symbol.Question) a → ⊥) →
    IfRefused stop (Refuses c (one is_name ∷ []) a end) → IfRefused stop (Refuses c (part Part.within ∷ []) a end)
within_at_name c a end stop no_int no_question r = refused_at_first c Part.within _ _ a end stop (within_name a no_int no_question) r

-- { "," X }
pub more_names : IsMore Part.more_names (one is_name)
more_names = record { chooses = λ next. refl; enters = λ next c. refl; leaves = λ c d. refl }

pub more_paths : IsMore Part.more_paths (part Part.path)
more_paths = record { chooses = λ next. refl; enters = λ next c. refl; leaves = λ c d. refl }

pub names_end : {c d e : Counts} {a b g : List Placed} → Onward c (part Part.names ∷ []) a d (part Part.more_names ∷ []) b → (Next (terminal.Symbol Symbol.Comma) b → ⊥) → e ≡ d → g ≡ b →
    Within c (part Part.names ∷ []) a e g
names_end so_far none same at = listed_end more_names so_far none same at

pub names_at_comma : (c d : Counts) (a b : List Placed) (end later : Place) (stop : Stop) → Onward c (part Part.names ∷ []) a d (part Part.more_names ∷ []) b → later ≡ end →
    Next (terminal.Symbol Symbol.Comma) b → IfRefused stop (Refuses d (one is_comma ∷ []) b later) → IfRefused stop (Refuses c (part Part.names ∷ []) a end)
names_at_comma c d a b end later stop so_far same n r = listed_at_comma c d _ a b end later stop Part.more_names _ more_names so_far same n r

pub names_at_item : (c d e : Counts) (a b g : List Placed) (end first later : Place) (stop : Stop) → Onward c (part Part.names ∷ []) a d (part Part.more_names ∷ []) b → first ≡ end →
    Within d (one is_comma ∷ []) b e g → later ≡ first → IfRefused stop (Refuses e (one is_name ∷ []) g later) → IfRefused stop (Refuses c (part Part.names ∷ []) a end)
names_at_item c d e a b g end first later stop so_far same comma at r = listed_at_item c d e _ a b g end first later stop Part.more_names _ more_names so_far same comma at r

pub paths_end : {c d e : Counts} {a b g : List Placed} → Onward c (part Part.path ∷ part Part.more_paths ∷ []) a d (part Part.more_paths ∷ []) b → (Next (terminal.Symbol Symbol.Comma) b → ⊥) → e ≡ d → g ≡ b →
    Within c (part Part.path ∷ part Part.more_paths ∷ []) a e g
paths_end so_far none same at = listed_end more_paths so_far none same at

pub paths_at_comma : (c d : Counts) (a b : List Placed) (end later : Place) (stop : Stop) → Onward c (part Part.path ∷ part Part.more_paths ∷ []) a d (part Part.more_paths ∷ []) b → later ≡ end →
    Next (terminal.Symbol Symbol.Comma) b → IfRefused stop (Refuses d (one is_comma ∷ []) b later) → IfRefused stop (Refuses c (part Part.path ∷ part Part.more_paths ∷ []) a end)
paths_at_comma c d a b end later stop so_far same n r = listed_at_comma c d _ a b end later stop Part.more_paths _ more_paths so_far same n r

pub paths_at_item : (c d e : Counts) (a b g : List Placed) (end first later : Place) (stop : Stop) → Onward c (part Part.path ∷ part Part.more_paths ∷ []) a d (part Part.more_paths ∷ []) b → first ≡ end →
    Within d (one is_comma ∷ []) b e g → later ≡ first → IfRefused stop (Refuses e (part Part.path ∷ []) g later) → IfRefused stop (Refuses c (part Part.path ∷ part Part.more_paths ∷ []) a end)
paths_at_item c d e a b g end first later stop so_far same comma at r = listed_at_item c d e _ a b g end first later stop Part.more_paths _ more_paths so_far same comma at r

pub names_begin : {c d : Counts} {a b : List Placed} → Within c (one is_name ∷ []) a d b → Onward c (part Part.names ∷ []) a d (part Part.more_names ∷ []) b
names_begin w = record {
  reads = λ e after v. read_part _ _ Part.names _ _ _ refl (seq w v);
  stops = λ k here s. in_part refl (stops_after w s);
}

pub names_at_first : (c : Counts) (a : List Placed) (end : Place) (stop : Stop) → IfRefused stop (Refuses c (one is_name ∷ []) a end) →
    IfRefused stop (Refuses c (part Part.names ∷ []) a end)
names_at_first c a end stop r = refused_at_first c Part.names _ _ a end stop refl r

pub paths_at_first : (c : Counts) (a : List Placed) (end : Place) (stop : Stop) → IfRefused stop (Refuses c (part Part.path ∷ []) a end) →
    IfRefused stop (Refuses c (part Part.path ∷ part Part.more_paths ∷ []) a end)
paths_at_first c a end stop r = refused_first c _ _ a end stop r

-- name [ "." name ]
pub region_name_alone : {c d e : Counts} {a b g : List Placed} → Within c (one is_name ∷ []) a d b → (Next (terminal.Symbol Symbol.Dot) b → ⊥) → e ≡ d → g ≡ b →
    Within c (part Part.region_name ∷ []) a e g
region_name_alone {d = d} {b = b} w none same at =
    rw (same, at) (read_two _ _ _ _ Part.region_name _ _ _ _ _ refl w
    (read_part d d Part.second_name [] b b (that_one _ _ (symbol_comes_not Symbol.Dot b none)) nothing) refl)

pub region_name_second : {c d e f : Counts} {a b g i : List Placed} → Within c (one is_name ∷ []) a d b → Within d (one is_dot ∷ []) b e g → Within e (one is_name ∷ []) g f i →
    Within c (part Part.region_name ∷ []) a f i
region_name_second w dot v =
    read_two _ _ _ _ Part.region_name _ _ _ _ _ refl w (read_two _ _ _ _ Part.second_name _ _ _ _ _ (this_one _ _ (next_read dot)) dot v refl) refl

pub region_name_at_first : (c : Counts) (a : List Placed) (end : Place) (stop : Stop) → IfRefused stop (Refuses c (one is_name ∷ []) a end) →
    IfRefused stop (Refuses c (part Part.region_name ∷ []) a end)
region_name_at_first c a end stop r = refused_at_first c Part.region_name _ _ a end stop refl r

pub region_name_at_dot : (c d : Counts) (a b : List Placed) (end later : Place) (stop : Stop) → Within c (one is_name ∷ []) a d b → later ≡ end →
    Next (terminal.Symbol Symbol.Dot) b → IfRefused stop (Refuses d (one is_dot ∷ []) b later) → IfRefused stop (Refuses c (part Part.region_name ∷ []) a end)
region_name_at_dot c d a b end later stop w is n r =
    refused_at_second c d Part.region_name _ _ _ a b end later stop refl w is
    (refused_at_first d Part.second_name _ _ b later stop (this_one _ _ (next_comes Symbol.Dot b n)) r)

pub region_name_at_second : (c d e : Counts) (a b g : List Placed) (end first later : Place) (stop : Stop) → Within c (one is_name ∷ []) a d b → first ≡ end →
    Within d (one is_dot ∷ []) b e g → later ≡ first → IfRefused stop (Refuses e (one is_name ∷ []) g later) → IfRefused stop (Refuses c (part Part.region_name ∷ []) a end)
region_name_at_second c d e a b g end first later stop w is dot same r =
    refused_at_second c d Part.region_name _ _ _ a b end first stop refl w is
    (refused_at_second d e Part.second_name _ _ _ b g first later stop (this_one _ _ (next_read dot)) dot same r)

-- "Root", or a region's name
pub head_reads_root : {c d : Counts} {a b : List Placed} → Within c (one is_root ∷ []) a d b → Within c (part Part.head ∷ []) a d b
head_reads_root w = read_one _ _ _ Part.head _ _ _ (this_one _ _ (next_read w)) w refl

pub head_reads_name : {c d e : Counts} {a b g : List Placed} → (Next (terminal.Keyword Keyword.Root) a → ⊥) → e ≡ c → g ≡ a → Within e (part Part.region_name ∷ []) g d b →
    Within c (part Part.head ∷ []) a d b
head_reads_name {a = a} none same at w = read_one _ _ _ Part.head _ _ _ (that_one _ _ (keyword_comes_not Keyword.Root a none)) (rw (same, at) at w) refl

pub head_at_root : (c : Counts) (a : List Placed) (end : Place) (stop : Stop) → Next (terminal.Keyword Keyword.Root) a → IfRefused stop (Refuses c (one is_root ∷ []) a end) →
    IfRefused stop (Refuses c (part Part.head ∷ []) a end)
head_at_root c a end stop n r = refused_at_first c Part.head _ _ a end stop (this_one _ _ (keyword_comes Keyword.Root a n)) r

pub head_at_name : (c d : Counts) (a b : List Placed) (end later : Place) (stop : Stop) → (Next (terminal.Keyword Keyword.Root) a → ⊥) → d ≡ c → b ≡ a → later ≡ end →
    IfRefused stop (Refuses d (part Part.region_name ∷ []) b later) → IfRefused stop (Refuses c (part Part.head ∷ []) a end)
head_at_name c d a b end later stop none same at is r =
    refused_at_first c Part.head _ _ a end stop (that_one _ _ (keyword_comes_not Keyword.Root a none)) (rw (same, at, is) at r)

-- an element is one more: a star, brackets or a region's name
elem_chosen : (here : List Placed) → (Next (terminal.Symbol Symbol.Star) here → ⊥) → (Next (terminal.Symbol Symbol.OpenBracket) here → ⊥) →
    choose Part.elem (next_of here) ≡ Some (part Part.region_name ∷ [])
elem_chosen here no_star no_bracket = rw (symbol_comes_not Symbol.Star here no_star, symbol_comes_not Symbol.OpenBracket here no_bracket) refl

elem_star : {here : List Placed} → Next (terminal.Symbol Symbol.Star) here → choose Part.elem (next_of here) ≡ Some (one is_star ∷ [])
elem_star n = rw (n.takes.takes.first) refl

elem_bracket : {here : List Placed} → Next (terminal.Symbol Symbol.OpenBracket) here → choose Part.elem (next_of here) ≡ Some (part Part.index ∷ [])
elem_bracket n = rw (n.takes.takes.first) refl

pub elem_reads_star : {c d : Counts} {a b : List Placed} {next : Placed} → Next (terminal.Symbol Symbol.Star) a → a ≡ next ∷ b → Fits (more c) → d ≡ more c →
    Within c (part Part.elem ∷ []) a d b
elem_reads_star {next = next} t is fits same = let e : next.terminal ≡ terminal.Symbol Symbol.Star = let f = t.takes.takes.first in cc in
    read_one _ _ _ Part.elem _ _ _ (elem_star t) (read_any is (rw e refl) fits (rw (e, same) refl)) refl

pub elem_reads_brackets : {c d : Counts} {a b : List Placed} → Next (terminal.Symbol Symbol.OpenBracket) a → Within (more c) (part Part.index ∷ []) a d b → Within c (part Part.elem ∷ []) a d b
elem_reads_brackets n w = read_one _ _ _ Part.elem _ _ _ (elem_bracket n) w refl

pub elem_reads_name : {c d : Counts} {a b : List Placed} → (Next (terminal.Symbol Symbol.Star) a → ⊥) → (Next (terminal.Symbol Symbol.OpenBracket) a → ⊥) →
    Within (more c) (part Part.region_name ∷ []) a d b → Within c (part Part.elem ∷ []) a d b
elem_reads_name no_star no_bracket w = read_one _ _ _ Part.elem _ _ _ (elem_chosen _ no_star no_bracket) w refl

pub elem_at_star : (c : Counts) (a : List Placed) (end : Place) (stop : Stop) → Next (terminal.Symbol Symbol.Star) a → IfRefused stop (Halts (more c) a end) →
    IfRefused stop (Refuses c (part Part.elem ∷ []) a end)
elem_at_star c a end stop n h = refused_at_first c Part.elem _ _ a end stop (elem_star n) (halted_symbol Symbol.Star a end (more c) stop n h)

pub elem_at_brackets : (c : Counts) (a : List Placed) (end : Place) (stop : Stop) → Next (terminal.Symbol Symbol.OpenBracket) a →
    IfRefused stop (Refuses (more c) (part Part.index ∷ []) a end) → IfRefused stop (Refuses c (part Part.elem ∷ []) a end)
elem_at_brackets c a end stop n r = refused_at_first c Part.elem _ _ a end stop (elem_bracket n) r

pub elem_at_name : (c : Counts) (a : List Placed) (end : Place) (stop : Stop) → (Next (terminal.Symbol Symbol.Star) a → ⊥) → (Next (terminal.Symbol Symbol.OpenBracket) a → ⊥) →
    IfRefused stop (Refuses (more c) (part Part.region_name ∷ []) a end) → IfRefused stop (Refuses c (part Part.elem ∷ []) a end)
elem_at_name c a end stop no_star no_bracket r = refused_at_first c Part.elem _ _ a end stop (elem_chosen a no_star no_bracket) r

-- { ":" Elem }
pub elems_begin : {c : Counts} {a : List Placed} → Onward c (part Part.elems ∷ []) a c (part Part.elems ∷ []) a
elems_begin = record { reads = λ e after w. w; stops = λ k here s. s }

pub elems_on : {c d e f : Counts} {xs : List Expected} {a b g i : List Placed} → Onward c xs a d (part Part.elems ∷ []) b →
    Within d (one is_colon ∷ []) b e g → Within e (part Part.elem ∷ []) g f i → Onward c xs a f (part Part.elems ∷ []) i
elems_on so_far colon w = onward_more (one is_colon ∷ part Part.elem ∷ []) Part.elems so_far (this_one _ _ (next_read colon)) (seq colon w) (λ f. refl)

pub elems_end : {c d e : Counts} {a b g : List Placed} → Onward c (part Part.elems ∷ []) a d (part Part.elems ∷ []) b →
    (Next (terminal.Symbol Symbol.Colon) b → ⊥) → e ≡ d → g ≡ b → Within c (part Part.elems ∷ []) a e g
elems_end {b = b} so_far none same at = onward_end Part.elems so_far (that_one _ _ (symbol_comes_not Symbol.Colon b none)) refl (λ f. refl) same at

pub elems_at_colon : (c d : Counts) (a b : List Placed) (end later : Place) (stop : Stop) → Onward c (part Part.elems ∷ []) a d (part Part.elems ∷ []) b → later ≡ end →
    Next (terminal.Symbol Symbol.Colon) b → IfRefused stop (Refuses d (one is_colon ∷ []) b later) → IfRefused stop (Refuses c (part Part.elems ∷ []) a end)
elems_at_colon c d a b end later stop so_far same n r =
    onward_refused c d _ _ a b end later stop so_far same (refused_at_first d Part.elems _ _ b later stop (this_one _ _ (next_comes Symbol.Colon b n)) r)

pub elems_at_elem : (c d e : Counts) (a b g : List Placed) (end first later : Place) (stop : Stop) → Onward c (part Part.elems ∷ []) a d (part Part.elems ∷ []) b → first ≡ end →
    Within d (one is_colon ∷ []) b e g → later ≡ first → IfRefused stop (Refuses e (part Part.elem ∷ []) g later) → IfRefused stop (Refuses c (part Part.elems ∷ []) a end)
elems_at_elem c d e a b g end first later stop so_far same colon at r =
    onward_refused c d _ _ a b end first stop so_far same (refused_at_second d e Part.elems _ _ _ b g first later stop (this_one _ _ (next_read colon)) colon at r)

-- a path counts anew
pub path_reads : {c d e f : Counts} {a b g : List Placed} → Within (anew c) (part Part.head ∷ []) a d b → Within d (part Part.elems ∷ []) b e g →
    f.level ≡ c.level → f.joined ≡ c.joined → Within c (part Part.path ∷ []) a f g
path_reads {c = c} {f = f} v w level joined =
    let same : f ≡ c = ap (λ n. record { level = n; joined = f.joined }) level ∙ ap (λ n. record { level = c.level; joined = n }) joined in
    rw same (read_part _ _ Part.path _ _ _ refl (seq v w))

pub path_at_head : (c : Counts) (a : List Placed) (end : Place) (stop : Stop) → IfRefused stop (Refuses (anew c) (part Part.head ∷ []) a end) →
    IfRefused stop (Refuses c (part Part.path ∷ []) a end)
path_at_head c a end stop r = refused_at_first c Part.path _ _ a end stop refl r

pub path_at_elems : (c d : Counts) (a b : List Placed) (end later : Place) (stop : Stop) → Within (anew c) (part Part.head ∷ []) a d b → later ≡ end →
    IfRefused stop (Refuses d (part Part.elems ∷ []) b later) → IfRefused stop (Refuses c (part Part.path ∷ []) a end)
path_at_elems c d a b end later stop w is r = refused_at_second c d Part.path _ _ _ a b end later stop refl w is r

-- [ "<" path { "," path } ">" ]
pub args_none : {c : Counts} {a : List Placed} → (Next (terminal.Symbol Symbol.Less) a → ⊥) → Within c (part Part.args_if ∷ []) a c a
args_none {a = a} none = read_part _ _ Part.args_if [] _ _ (that_one _ _ (symbol_comes_not Symbol.Less a none)) nothing

pub args_some : {c d : Counts} {a b : List Placed} → Next (terminal.Symbol Symbol.Less) a → Within c (part Part.args ∷ []) a d b → Within c (part Part.args_if ∷ []) a d b
args_some {a = a} n w = read_one _ _ _ Part.args_if _ _ _ (this_one _ _ (next_comes Symbol.Less a n)) w refl

pub args_if_at : (c : Counts) (a : List Placed) (end : Place) (stop : Stop) → Next (terminal.Symbol Symbol.Less) a → IfRefused stop (Refuses c (part Part.args ∷ []) a end) →
    IfRefused stop (Refuses c (part Part.args_if ∷ []) a end)
args_if_at c a end stop n r = refused_at_first c Part.args_if _ _ a end stop (this_one _ _ (next_comes Symbol.Less a n)) r

pub args_reads : {c d e f : Counts} {a b g i : List Placed} → Within c (one is_less ∷ []) a d b → Within d (part Part.path ∷ part Part.more_paths ∷ []) b e g →
    Within e (one is_greater ∷ []) g f i → Within c (part Part.args ∷ []) a f i
args_reads u v w = read_part _ _ Part.args _ _ _ refl (seq u (both v w))

pub args_at_open : (c : Counts) (a : List Placed) (end : Place) (stop : Stop) → IfRefused stop (Refuses c (one is_less ∷ []) a end) →
    IfRefused stop (Refuses c (part Part.args ∷ []) a end)
args_at_open c a end stop r = refused_at_first c Part.args _ _ a end stop refl r

pub args_at_paths : (c d : Counts) (a b : List Placed) (end later : Place) (stop : Stop) → Within c (one is_less ∷ []) a d b → later ≡ end →
    IfRefused stop (Refuses d (part Part.path ∷ part Part.more_paths ∷ []) b later) → IfRefused stop (Refuses c (part Part.args ∷ []) a end)
args_at_paths c d a b end later stop w is r =
    refused_part c Part.args _ a end stop refl
    (refused_later c d _ (part Part.path) (part Part.more_paths ∷ one is_greater ∷ []) a b end later stop w is (refused_in_list d _ (one is_greater ∷ []) b later stop r))

pub args_at_close : (c d e : Counts) (a b g : List Placed) (end first later : Place) (stop : Stop) → Within c (one is_less ∷ []) a d b → first ≡ end →
    Within d (part Part.path ∷ part Part.more_paths ∷ []) b e g → later ≡ first → IfRefused stop (Refuses e (one is_greater ∷ []) g later) →
    IfRefused stop (Refuses c (part Part.args ∷ []) a end)
args_at_close c d e a b g end first later stop w is v same r =
    refused_part c Part.args _ a end stop refl
    (refused_later c d _ (part Part.path) (part Part.more_paths ∷ one is_greater ∷ []) a b end first stop w is (refused_after_list d e _ (one is_greater ∷ []) b g first later stop v same r))

-- what each function reads and refuses
pub ruleset names_reading = (more_names, listed_on, names_end, names_at_comma, names_at_item, names_begin, names_at_first)

pub ruleset region_name_reading = (region_name_alone, region_name_second, region_name_at_first, region_name_at_dot, region_name_at_second, few_read)

pub ruleset rpl_reading = (path_reads, path_at_head, path_at_elems)

pub ruleset head_reading = (head_reads_root, head_reads_name, head_at_root, head_at_name, few_read)

pub ruleset elems_reading = (elems_begin, elems_on, elems_end, elems_at_colon, elems_at_elem, few_read)

pub ruleset elem_reading = (elem_reads_star, elem_reads_brackets, elem_reads_name, elem_at_star, elem_at_brackets, elem_at_name)

pub ruleset index_reading = (index_reads, index_at_open, index_at_within, index_at_close, few_read)

pub ruleset within_reading = (within_reads_number, within_reads_question, within_reads_name, within_halts_number, within_halts_question, within_at_name)

pub ruleset args_if_reading = (args_none, args_some, args_if_at)

pub ruleset args_reading = (args_reads, args_at_open, args_at_paths, args_at_close, joined_read)

pub ruleset paths_reading = (more_paths, after_first, listed_on, paths_end, paths_at_comma, paths_at_item, paths_at_first, joined_read)
