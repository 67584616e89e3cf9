-- The words of a line are read as one summary, which says what is kept; and the tree with all of them.
use Rattle.std.proofs.Common.{◌≡◌, ◌∙◌, ◌+◌, ◌<◌, ℕ, List, [], ◌∷◌, ◌++◌, get_or, slice_get, Option, Some, None, inl, inr, refl, ap, sym, subst, arith}
use Rattle.std.specs.List.{IsDistinct}
use Rattle.std.specs.Prelude.{option_map}
use Rattle.std.specs.Str.{bytes_eq}
use Rattle.std.proofs.lemmas.Bool.{cases_lt, false≢true}
use Rattle.std.proofs.lemmas.Map.Keys.{apart_from_distinct}
use Rattle.std.proofs.lemmas.Option.{get_or_from_slice_get, none-some, same_Some, slice_get-map, slice_get_within}
use Rattle.std.proofs.lemmas.Slice.Eq.{bytes_eq-Decides}
use Rattle.lang_typed.specs.Names.{Named}
use Rattle.lang_typed.specs.Plain.{PlainProgram, PlainMember}
use Rattle.lang_typed.specs.Scope.{member_at}
use Rattle.syntax_tokens.specs.Cutting.{Cuts, tokens_of}
use Rattle.syntax_tokens.specs.Place.{first_place, place_after}
use Rattle.syntax_tokens.specs.Says.{MeanAll, Means}
use Rattle.syntax_tokens.specs.declared.terminal.Placed.{Placed}
use Rattle.syntax_tokens.specs.declared.terminal.Terminal.{Terminal}
use Rattle.syntax_tokens.specs.declared.terminal.Terminal.TheVariants as terminal
use Rattle.syntax_tokens.specs.declared.token.Symbol.TheVariants as symbol
use Rattle.syntax_tokens.specs.declared.token.Token.{Token}
use Rattle.syntax_tokens.specs.declared.token.TokenKind.{TokenKind}
use Rattle.syntax_tokens.specs.declared.token.TokenKind.TheVariants as kind
use Rattle.syntax_tokens.proofs.OneCutting.{cuts-unique}
use Rattle.syntax_tree.specs.declared.class.Class.{Class}
use Rattle.syntax_tree.specs.declared.class.Program.{Program}
use Rattle.syntax_tree.specs.declared.class.SummaryTree.{SummaryTree}
use Rattle.syntax_grammar.specs.Classes.{DerivesSummary}
use Rattle.syntax_grammar.proofs.Distinct.{all_distinct}
use Rattle.syntax_grammar.proofs.once.OnceMembers.{summary_once}
use Rattle.syntax_grammar.proofs.once.OnceReader.{come_once}
use Rattle.syntax_means.specs.Accepts.{Accepts, HasTree}
use Rattle.syntax_means.specs.Declares.{OwnMethod, all_methods, names_in, params_spelled, spelled}
use Rattle.syntax_means.specs.Means.{MemberMeans, SummaryMeans, in_method}
use Rattle.body_infer.specs.declared.kept.Kept.{Kept}
use Rattle.body_infer.specs.Kept.{Keeping, SaysOfEach, summary_kept}
use Rattle.body_infer.specs.Lines.{params_of, summary_text}
use Rattle.body_infer.specs.PostFixpoint.{IsPostFixpoint}
use Rattle.sound_infer.specs.Laws.{program_inferred}
use Rattle.sound_infer.specs.Reading.{HasSummariesOfLines, ReadsAs, words_of}
use Rattle.sound_infer.specs.Written.{SaysWhatIsKept}
use Rattle.sound_infer.proofs.reading.Parts.{EndsWord, Reads, pieces_of, said_from, whole_is, whole_says}
use Rattle.sound_infer.proofs.reading.Speaking.{words_read}
use Rattle.sound_infer.proofs.reading.Summaries.{IsSummary}
use Rattle.sound_infer.proofs.written.Choosing.{classes_same, classes_with, method_at, methods_of}
use Rattle.sound_infer.proofs.written.Programs.{kept_is_accepted}

-- bytes are read as one summary at most, where the names are apart

abbrev AreApart : List (List ℕ) → Type 0
AreApart names = (i j : ℕ) (text : List ℕ) → slice_get names i ≡ Some text → slice_get names j ≡ Some text → i ≡ j

names_apart : (names : List (List ℕ)) → IsDistinct bytes_eq names → AreApart names
names_apart names distinct i j text d e = elim (cases_lt i j) [
  | inl below ↦ absurd (before i j below d e)
  | inr not_below ↦ elim (cases_lt j i) [ inl above ↦ absurd (before j i above e d) | inr not_above ↦ omega arith ]
]
  where
    before : (m n : ℕ) → m < n → slice_get names m ≡ Some text → slice_get names n ≡ Some text → ⊥
    before m n below f g =
        false≢true (sym (apart_from_distinct bytes_eq names m n [] distinct below (slice_get_within names n text g))
        ∙ (bytes_eq-Decides (get_or names m []) (get_or names n [])).1 (get_or_from_slice_get names m text [] f ∙ sym (get_or_from_slice_get names n text [] g)))

module _ (names : List (List ℕ)) (apart : AreApart names) where
  one_terminal : (form : TokenKind) (text : List ℕ) (a b : Terminal) → Means names form text a → Means names form text b → a ≡ b
  one_terminal kind.Name text (terminal.Name i) (terminal.Name j) d e = ap (λ n. terminal.Name n) (apart i j text d e)
  one_terminal kind.Name text (terminal.Name i) b d e = absurd e
  one_terminal kind.Int text (terminal.Int i) (terminal.Int j) d e = ap (λ n. terminal.Int n) (d ∙ sym e)
  one_terminal kind.Int text (terminal.Int i) b d e = absurd e
  one_terminal kind.Text text (terminal.Text i) (terminal.Text j) d e = ap (λ t. terminal.Text t) (d ∙ sym e)
  one_terminal kind.Text text (terminal.Text i) b d e = absurd e
  one_terminal (kind.Symbol s) text (terminal.Symbol i) (terminal.Symbol j) d e = ap (λ t. terminal.Symbol t) (d ∙ sym e)
  one_terminal (kind.Symbol s) text (terminal.Symbol i) b d e = absurd e
  one_terminal (kind.Keyword k) text (terminal.Keyword i) (terminal.Keyword j) d e = ap (λ t. terminal.Keyword t) (d ∙ sym e)
  one_terminal (kind.Keyword k) text (terminal.Keyword i) b d e = absurd e
  one_terminal form text a b d e = absurd d

  one_list : (bytes : List ℕ) (tokens : List Token) (left right : List Placed) → MeanAll names bytes tokens left → MeanAll names bytes tokens right → left ≡ right
  one_list bytes [] [] [] l r = refl
  one_list bytes [] [] (b ∷ right) l r = absurd r
  one_list bytes [] (a ∷ left) right l r = absurd l
  one_list bytes (token ∷ tokens) [] right l r = absurd l
  one_list bytes (token ∷ tokens) (a ∷ left) [] l r = absurd r
  one_list bytes (token ∷ tokens) (a ∷ left) (b ∷ right) l r =
      ap (λ t. record { terminal = t; place = a.place } ∷ left) (one_terminal token.kind _ a.terminal b.terminal l.1 r.1)
      ∙ ap (λ p. record { terminal = b.terminal; place = p } ∷ left) (l.0 ∙ sym r.0) ∙ ap (λ list. b ∷ list) (one_list bytes tokens left right l.2 r.2)

  cut : {bytes : List ℕ} (s : SummaryTree) (p : ReadsAs names bytes s) → Cuts bytes (tokens_of [] p.pieces) (place_after bytes)
  cut s p = record { pieces = p.pieces; whole = p.whole; each = p.each [] tt; reported = refl; ends = refl }

  -- by what is read in front of a `{`
  one_summary : (bytes : List ℕ) (s t : SummaryTree) → ReadsAs names bytes s → ReadsAs names bytes t → s ≡ t
  one_summary bytes s t p q =
      let tokens = (cuts-unique bytes _ _ _ _ (cut s p) (cut t q)).0 in
      let list = one_list bytes (tokens_of [] q.pieces) p.list q.list (subst (λ ts. MeanAll names bytes ts p.list) tokens p.said) q.said in
      let after : List Placed = record { terminal = terminal.Symbol symbol.OpenBrace; place = first_place } ∷ [] in
      let first : DerivesSummary (q.list ++ after) after (Some s) = subst (λ l. DerivesSummary (l ++ after) after (Some s)) list (p.derived after) in
      same_Some s t (come_once (summary_once first (λ test. refl)) (summary_once (q.derived after) (λ test. refl)))

module _ (text : List ℕ) (tree : Program) (P : PlainProgram) (S : Keeping) (accepted : Accepts text tree P) where
  -- the words of a line
  abbrev words : PlainMember → Named → List Kept → List ℕ
  words m named ks = words_of tree (record m { summary = summary_kept ks m.summary }) named

  -- the names of a member

  abbrev named_of : OwnMethod → Named
  named_of own = record { name = spelled tree own.method.name; params = params_spelled tree own.method.params }

  called : (n : ℕ) (own : OwnMethod) → slice_get (all_methods tree) n ≡ Some own → slice_get (names_in tree).members n ≡ Some (named_of own)
  called n own is = slice_get-map named_of (all_methods tree) n ∙ ap (option_map named_of) is

  method_called : (n : ℕ) (named : Named) → slice_get (names_in tree).members n ≡ Some named → (own : OwnMethod) × (slice_get (all_methods tree) n ≡ Some own)
  method_called n named e = by (slice_get (all_methods tree) n) refl
    where
      by : (o : Option OwnMethod) → slice_get (all_methods tree) n ≡ o → (own : OwnMethod) × (slice_get (all_methods tree) n ≡ Some own)
      by (Some own) is = (own, is)
      by None is = absurd (none-some named (sym (slice_get-map named_of (all_methods tree) n ∙ ap (option_map named_of) is) ∙ e))

  reading : (n : ℕ) (own : OwnMethod) (class : Class) (m : PlainMember) (named : Named) (ks : List Kept) → slice_get (all_methods tree) n ≡ Some own →
      slice_get tree.classes own.class ≡ Some class → member_at P n ≡ Some m → slice_get (names_in tree).members n ≡ Some named →
      (summary : SummaryTree) × ReadsAs tree.names (words m named ks) summary × SummaryMeans (in_method tree P class own) (Some summary) (summary_kept ks m.summary)
  reading n own class m named ks is stands at called =
      let of_class : own.class ≡ m.class = sym (MemberMeans.of_class (accepted.means.members n own m is at)) in
      let p = subst (λ c. Reads tree.names EndsWord (IsSummary (in_method tree P class own) (summary_kept ks m.summary)) (summary_text (names_in tree) (params_of (names_in tree) c named) (summary_kept ks m.summary)))
      of_class (words_read text tree P accepted n own class m named ks is stands at called) in
      let w = whole_is p in (
        w.0,
        record { pieces = pieces_of p.parts; whole = sym p.spelled; each = p.stand; list = said_from [] p.parts []; said = whole_says p; derived = λ after. (w.1 after).0 },
        (w.1 []).1,
      )

  apart : AreApart tree.names
  apart = names_apart tree.names (subst (IsDistinct bytes_eq) (sym accepted.has_tree.names) (all_distinct text accepted.has_tree.tokens))

  pub lines_say : (new : Program) → HasSummariesOfLines tree new P S → SaysWhatIsKept tree new P S
  lines_say new h = record {
    same = h.same;
    says = λ n own other class m ks is at stands here keeps.
        let r = h.reads n other m (named_of own) ks at here (called n own is) keeps in
        let w = reading n own class m (named_of own) ks is stands here (called n own is) in
        subst (λ s. SummaryMeans (in_method tree P class own) s (summary_kept ks m.summary))
        (ap (λ s. Some s) (one_summary tree.names apart _ w.0 r.0 w.1 r.2) ∙ sym r.1) w.2;
  }

  -- the summary of a line, where there is one

  abbrev SaysIt : ℕ → Option SummaryTree → Type 0
  SaysIt n s = (m : PlainMember) (named : Named) (ks : List Kept) → member_at P n ≡ Some m → slice_get (names_in tree).members n ≡ Some named → slice_get S n ≡ Some ks →
      (summary : SummaryTree) × (s ≡ Some summary) × ReadsAs tree.names (words m named ks) summary

  each_says : (n : ℕ) → (s : Option SummaryTree) × SaysIt n s
  each_says n = by (slice_get (all_methods tree) n) (member_at P n) (slice_get S n) refl refl refl
    where
      by : (a : Option OwnMethod) (b : Option PlainMember) (c : Option (List Kept)) → slice_get (all_methods tree) n ≡ a → member_at P n ≡ b → slice_get S n ≡ c → (s : Option SummaryTree) × SaysIt n s
      by None b c e f g = (None, λ m named ks f' e' g'. (let own = method_called n named e' in absurd (none-some own.0 (sym e ∙ own.1))))
      by (Some own) None c e f g = (None, λ m named ks f' e' g'. absurd (none-some m (sym f ∙ f')))
      by (Some own) (Some m) None e f g = (None, λ m' named ks f' e' g'. absurd (none-some ks (sym g ∙ g')))
      by (Some own) (Some m) (Some ks) e f g =
          let own_class = accepted.means.members n own m e f in
          let w = reading n own own_class.class m (named_of own) ks e own_class.stands f (called n own e) in (
            Some w.0,
            λ m' named' ks' f' e' g'. (
              w.0,
              refl,
              subst (λ x. ReadsAs tree.names (words m' named' x) w.0) (same_Some ks ks' (sym g ∙ g'))
                  (subst (λ x. ReadsAs tree.names (words m' x ks) w.0) (same_Some (named_of own) named' (sym (called n own e) ∙ e'))
                  (subst (λ (x : PlainMember). ReadsAs tree.names (words x (named_of own) ks) w.0) (same_Some m m' (sym f ∙ f')) w.1)),
            ),
          )

  pub lines_read : (new : Program) × HasSummariesOfLines tree new P S
  lines_read =
      let f = λ (n : ℕ). (each_says n).0 in
      let new : Program = record tree { classes = classes_with f 0 tree.classes } in (
        new,
        record {
          same = ap (λ ks. record tree { classes = ks }) (classes_same f 0 tree.classes);
          reads = λ n other m named ks at here e keeps.
              let zero_more : 0 + n ≡ n = omega arith in
              let own = method_called n named e in
              let is : other.method.summary ≡ f n = method_at f 0 n (all_methods tree) own.0 other own.1 (ap (λ xs. slice_get xs n) (sym (methods_of f 0 0 tree.classes)) ∙ at) ∙ ap f zero_more in
              let w = (each_says n).1 m named ks here e keeps in
              (w.0, is ∙ w.1, w.2);
        },
      )

pub lines_accepted : (text other : List ℕ) (tree new : Program) (P : PlainProgram) (S : Keeping) → Accepts text tree P → SaysOfEach P S → IsPostFixpoint P S →
    HasSummariesOfLines tree new P S → HasTree other new → Accepts other new (program_inferred S P)
lines_accepted text other tree new P S accepted says fix h has = kept_is_accepted text other tree new P S says fix (lines_say text tree P S accepted new h) accepted has
