-- What is written of a summary is read as a summary that means it.
use Rattle.std.proofs.Common.{◌≡◌, ◌∙◌, ℕ, Bool, true, false, List, [], ◌∷◌, ◌++◌, map, Some, refl, ap, sym, subst, append_assoc}
use Rattle.std.specs.Prelude.{Contains, codes}
use Rattle.std.specs.List.{AllZip, flat_map}
use Rattle.std.proofs.lemmas.List.{append-nil}
use Rattle.lang_base.specs.declared.effect.Access.{Access}
use Rattle.lang_base.specs.declared.effect.Access.TheVariants.{Read, Write}
use Rattle.lang_base.specs.declared.effect.Effect.{Effect}
use Rattle.lang_base.specs.declared.place.Place.{Place}
use Rattle.lang_typed.specs.Statements.{SameEffects}
use Rattle.syntax_tokens.specs.declared.token.Keyword.{Keyword}
use Rattle.syntax_tokens.specs.declared.token.Keyword.TheVariants as keyword
use Rattle.syntax_tokens.specs.declared.terminal.Placed.{Placed}
use Rattle.syntax_tokens.specs.declared.terminal.Terminal.{Terminal}
use Rattle.syntax_tokens.specs.declared.terminal.Terminal.TheVariants as terminal
use Rattle.syntax_tokens.specs.Spelling.{keyword_text}
use Rattle.syntax_tree.specs.declared.class.Item.{Item}
use Rattle.syntax_tree.specs.declared.class.SummaryTree.{SummaryTree}
use Rattle.syntax_grammar.specs.Classes.{DerivesAtomic, DerivesItem, DerivesItems, DerivesSummary}
use Rattle.syntax_grammar.specs.Taking.{Listed, Takes}
use Rattle.syntax_means.specs.Declares.{names_in}
use Rattle.syntax_means.specs.Means.{ItemMeans, SummaryMeans}
use Rattle.syntax_means.specs.Paths.{Around}
use Rattle.body_infer.specs.Lines.{item_text, items_of, listed, mark_text, path_text, summary_text}
use Rattle.sound_infer.proofs.reading.Items.{item_from, same_items, some_items}
use Rattle.sound_infer.proofs.written.Choosing.{here, later}
use Rattle.sound_infer.proofs.reading.Parts.{Anything, EndsWord, Reads, a_space, followed, nothing, read_as, spelled_as}
use Rattle.sound_infer.proofs.reading.Paths.{AllSpelled, IsPath, SpeakablePath, path_reads, takes}
use Rattle.sound_infer.proofs.reading.Words.{Comes, a_comma, a_keyword, at_comma, at_space}

-- a terminal, and then a space
spaced : {said : Terminal} {before between after : List Placed} {place : Place} → Comes said before between place → between ≡ after → Takes said before after place
spaced {said} {place = place} c e = takes (c ∙ ap (λ rest. record { terminal = said; place = place } ∷ rest) e)

module _ (A : Around) where
  abbrev pub IsSummary : List Effect → List Placed → List Placed → SummaryTree → Type 0
  IsSummary es before after tree = DerivesSummary before after (Some tree) × SummaryMeans A (Some tree) es

module _ (A : Around) (params : List (List ℕ)) (all : AllSpelled A params) where
  abbrev names : List (List ℕ)
  names = A.tree.names

  abbrev text_of : Effect → List ℕ
  text_of e = item_text (names_in A.tree) params e

  abbrev IsItem : Access → Effect → List Placed → List Placed → Item → Type 0
  IsItem access e before after item = DerivesItem before after item × ItemMeans A access item e

  mark_reads : (mark : Bool) → Reads {T = Place} names Anything (λ before after place. DerivesAtomic before after mark) (mark_text mark)
  mark_reads true =
      let marked = followed names EndsWord Anything (Comes _) _ (codes "atomic") (codes " ") (a_keyword names keyword.Atomic) (a_space names) (λ left ends. at_space) in
      read_as names Anything Anything _ (λ before after place. DerivesAtomic before after true) (codes "atomic ") marked (λ left ends. ends) (λ t. t.0)
      (λ before after t h. DerivesAtomic.atomic (spaced h.1 h.2))
  mark_reads false = nothing names Anything (λ before after place. DerivesAtomic before after false) (record { line = 0; col = 0 }) (λ here. DerivesAtomic.plain)

  item_reads : (access : Access) (e : Effect) → SpeakablePath A e.rpl → e.access ≡ access → Reads names EndsWord (IsItem access e) (text_of e)
  item_reads access e speakable same =
      let both = followed names Anything EndsWord _ (IsPath A e.rpl) (mark_text e.atomic) (path_text (names_in A.tree) params e.rpl) (mark_reads e.atomic) (path_reads A params all e.rpl speakable) (λ left ends. tt) in
      read_as names EndsWord EndsWord _ (IsItem access e) (text_of e) both (λ left ends. ends) (λ t. record { atomic = e.atomic; rpl = t.1 })
      (λ before after t h. (DerivesItem.item h.1 h.2.0, record { path = h.2.1; is = ap (λ a. record e { access = a }) same }))

  abbrev AreItems : Access → List Effect → List Placed → List Placed → List Item → Type 0
  AreItems access es before after items = Listed DerivesItem before after items × AllZip (ItemMeans A access) items es

  abbrev AllSpeak : Access → List Effect → Type 0
  AllSpeak access es = (e : Effect) → Contains es e → SpeakablePath A e.rpl × (e.access ≡ access)

  abbrev more_texts : List Effect → List ℕ
  more_texts es = flat_map (λ more. codes ", " ++ more) (map text_of es)

  ends_before : (es : List Effect) (left : List ℕ) → EndsWord left → EndsWord (more_texts es ++ left)
  ends_before [] left ends = ends
  ends_before (e ∷ es) left ends = at_comma

  items_read : (access : Access) (e : Effect) (es : List Effect) → AllSpeak access (e ∷ es) → Reads names EndsWord (AreItems access (e ∷ es)) (text_of e ++ more_texts es)
  items_read access e [] speak =
      let own = speak e (here e []) in
      spelled_as (sym (append-nil (text_of e)))
      (read_as names EndsWord EndsWord (IsItem access e) (AreItems access (e ∷ [])) (text_of e) (item_reads access e own.0 own.1) (λ left ends. ends) (λ t. t ∷ [])
      (λ before after t h. (Listed.last h.0, (h.1, tt))))
  items_read access e (f ∷ es) speak =
      let own = speak e (here e (f ∷ es)) in
      let comma = followed names Anything Anything (Comes _) _ (codes ",") (codes " ") (a_comma names) (a_space names) (λ left ends. tt) in
      let rest = followed names Anything EndsWord _ (AreItems access (f ∷ es)) (codes ", ") (text_of f ++ more_texts es) comma (items_read access f es (λ d c. speak d (later e (f ∷ es) d c))) (λ left ends. tt) in
      let both = followed names EndsWord EndsWord (IsItem access e) _ (text_of e) (codes ", " ++ (text_of f ++ more_texts es)) (item_reads access e own.0 own.1) rest (λ left ends. at_comma) in
      spelled_as (ap (λ bs. text_of e ++ bs) (sym (append_assoc (codes ", ") (text_of f) (more_texts es))))
      (read_as names EndsWord EndsWord _ (AreItems access (e ∷ f ∷ es)) (text_of e ++ (codes ", " ++ (text_of f ++ more_texts es))) both (λ left ends. ends) (λ t. t.0 ∷ t.1.1)
      (λ before after t h. (Listed.more h.1.0 (spaced h.2.1.1 h.2.1.2) h.2.2.0, (h.1.1, h.2.2.1))))

  -- a keyword and items
  abbrev ArePart : Keyword → Access → List Effect → List Placed → List Placed → List Item → Type 0
  ArePart k access es before after items = DerivesItems k before after items × AllZip (ItemMeans A access) items es

  part_reads : (k : Keyword) (access : Access) (e : Effect) (es : List Effect) → AllSpeak access (e ∷ es) →
      Reads names EndsWord (ArePart k access (e ∷ es)) (listed (codes " " ++ keyword_text k ++ codes " ") (map text_of (e ∷ es)))
  part_reads k access e es speak =
      let before = followed names Anything EndsWord _ (Comes _) (codes " ") (keyword_text k) (a_space names) (a_keyword names k) (λ left ends. tt) in
      let opened = followed names EndsWord Anything _ _ (codes " " ++ keyword_text k) (codes " ") before (a_space names) (λ left ends. at_space) in
      let both = followed names Anything EndsWord _ (AreItems access (e ∷ es)) (codes " " ++ keyword_text k ++ codes " ") (text_of e ++ more_texts es) opened (items_read access e es speak) (λ left ends. tt) in
      spelled_as (sym (append_assoc (codes " " ++ keyword_text k ++ codes " ") (text_of e) (more_texts es)))
      (read_as names EndsWord EndsWord _ (ArePart k access (e ∷ es)) (codes " " ++ keyword_text k ++ codes " " ++ (text_of e ++ more_texts es)) both (λ left ends. ends) (λ t. t.1)
      (λ before after t h. (DerivesItems.items (takes (h.1.1.1 ∙ h.1.1.2 ∙ ap (λ rest. record { terminal = terminal.Keyword k; place = t.0.0.1 } ∷ rest) h.1.2)) h.2.0, h.2.1)))

  pub summary_reads : (es : List Effect) → ((e : Effect) → Contains es e → SpeakablePath A e.rpl) → Reads names EndsWord (IsSummary A es) (summary_text (names_in A.tree) params es)
  summary_reads [] speak =
      let both = followed names Anything EndsWord _ (Comes _) (codes " ") (codes "pure") (a_space names) (a_keyword names keyword.Pure) (λ left ends. tt) in
      read_as names EndsWord EndsWord _ (IsSummary A []) (codes " pure") both (λ left ends. ends) (λ t. record { reads = []; writes = [] })
      (λ before after t h. (DerivesSummary.pure (takes (h.1 ∙ h.2)), SummaryMeans.written [] [] tt tt (λ d. (λ c. c, λ c. c))))
  summary_reads (e ∷ es) speak = by (items_of Read (e ∷ es)) (items_of Write (e ∷ es)) refl refl
    where
      speaks : (access : Access) (fs : List Effect) → items_of access (e ∷ es) ≡ fs → AllSpeak access fs
      speaks access fs is f c = let w = item_from access (e ∷ es) f (subst (λ items. Contains items f) (sym is) c) in (speak f w.0, w.1)

      same : (rs ws : List Effect) → items_of Read (e ∷ es) ≡ rs → items_of Write (e ∷ es) ≡ ws → SameEffects (e ∷ es) (rs ++ ws)
      same rs ws r w = subst (λ items. SameEffects (e ∷ es) items) (ap (λ items. items ++ items_of Write (e ∷ es)) r ∙ ap (λ items. rs ++ items) w) (same_items (e ∷ es))

      by : (rs ws : List Effect) → items_of Read (e ∷ es) ≡ rs → items_of Write (e ∷ es) ≡ ws →
          Reads names EndsWord (IsSummary A (e ∷ es)) (listed (codes " reads ") (map text_of rs) ++ listed (codes " writes ") (map text_of ws))
      by [] [] r w = absurd (some_items e es r w)
      by (f ∷ rs) [] r w =
          spelled_as (sym (append-nil (listed (codes " reads ") (map text_of (f ∷ rs)))))
          (read_as names EndsWord EndsWord (ArePart keyword.Reads Read (f ∷ rs)) (IsSummary A (e ∷ es)) (listed (codes " reads ") (map text_of (f ∷ rs)))
          (part_reads keyword.Reads Read f rs (speaks Read (f ∷ rs) r)) (λ left ends. ends) (λ t. record { reads = t; writes = [] })
          (λ before after t h. (DerivesSummary.reads h.0, SummaryMeans.written (f ∷ rs) [] h.1 tt (same (f ∷ rs) [] r w))))
      by [] (f ∷ ws) r w =
          read_as names EndsWord EndsWord (ArePart keyword.Writes Write (f ∷ ws)) (IsSummary A (e ∷ es)) (listed (codes " writes ") (map text_of (f ∷ ws)))
          (part_reads keyword.Writes Write f ws (speaks Write (f ∷ ws) w)) (λ left ends. ends) (λ t. record { reads = []; writes = t })
          (λ before after t h. (DerivesSummary.writes h.0, SummaryMeans.written [] (f ∷ ws) tt h.1 (same [] (f ∷ ws) r w)))
      by (f ∷ rs) (g ∷ ws) r w =
          let both = followed names EndsWord EndsWord (ArePart keyword.Reads Read (f ∷ rs)) (ArePart keyword.Writes Write (g ∷ ws)) (listed (codes " reads ") (map text_of (f ∷ rs)))
          (listed (codes " writes ") (map text_of (g ∷ ws))) (part_reads keyword.Reads Read f rs (speaks Read (f ∷ rs) r)) (part_reads keyword.Writes Write g ws (speaks Write (g ∷ ws) w)) (λ left ends. at_space) in
          read_as names EndsWord EndsWord _ (IsSummary A (e ∷ es)) (listed (codes " reads ") (map text_of (f ∷ rs)) ++ listed (codes " writes ") (map text_of (g ∷ ws))) both
          (λ left ends. ends) (λ t. record { reads = t.0; writes = t.1 })
          (λ before after t h. (DerivesSummary.reads_and_writes h.1.0 h.2.0, SummaryMeans.written (f ∷ rs) (g ∷ ws) h.1.1 h.2.1 (same (f ∷ rs) (g ∷ ws) r w)))
