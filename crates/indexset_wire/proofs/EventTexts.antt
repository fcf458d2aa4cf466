-- The text of an event is read as that event, and no other text is.
use Rattle.std.proofs.Common.{Option, None, Some, ◌≡◌, ℕ, ◌<◌, ◌^◌, Bool, true, false, cond, List, ◌∷◌, ◌++◌, refl, sym, ap, subst, ◌∙◌, arith, append_assoc}
use lib.Chars.{codes}
use Rattle.std.proofs.lemmas.Slice.Eq.{bytes_eq-Decides}
use Rattle.std.specs.Fmt.{decimal}
use Rattle.std.specs.Option.{option_and_then, option_map}
use Rattle.std.specs.Str.{bytes_eq}
use Rattle.indexset_wire.specs.Event.{EventInRange, event_head, event_of, event_text, named_event, placed_event, word_event}
use Rattle.indexset_wire.specs.Numbers.{number_of}
use Rattle.indexset_wire.specs.Numbers.Laws.{decimal_item, number_lacks, number_sound, number_told}
use Rattle.indexset_wire.specs.Pairs.Laws.{lacks_append}
use Rattle.indexset_wire.specs.Parts.{cut_at, lacks}
use Rattle.indexset_wire.specs.Parts.Laws.{Lacks, cut_sound, cut_told, item_parts, lacks_tested, map_some, none_some, some_inj, then_some}
use Rattle.indexset_wire.specs.Texts.{AreItems, Texts}
use Rattle.indexset_events.specs.Text.{event_shown}
use Rattle.indexset_events.specs.declared.change.ChangeEvent.{ChangeEvent}
use Rattle.indexset_events.specs.declared.change.ChangeEvent.TheVariants.{InsertAt, RemoveAt, CreateNode, RemoveNode, SplitNode, MergeNodes}
use Rattle.indexset_events.specs.declared.change.Id.{Id}

-- ---- the texts of events

-- a number, a word and the rest, separated by spaces
abbrev line_of : Id → List ℕ → List ℕ → List ℕ
line_of id word rest = decimal id.0 ++ 32 ∷ (word ++ 32 ∷ rest)

module _ {T : Type 0} (texts : Texts T) where
  -- the maximum of the node, and the text after it
  abbrev named : T → List ℕ → List ℕ
  named p rest = texts.text p ++ 32 ∷ rest

  -- the text after the first fields of an event
  behind_name : (id : Id) (word : List ℕ) (m : T) (rest : List ℕ) → (decimal id.0 ++ 32 ∷ (word ++ 32 ∷ texts.text m)) ++ 32 ∷ rest ≡ line_of id word (named m rest)
  behind_name id word m rest =
      append_assoc (decimal id.0) (32 ∷ (word ++ 32 ∷ texts.text m)) (32 ∷ rest)
      ∙ ap (λ l. decimal id.0 ++ 32 ∷ l) (append_assoc word (32 ∷ texts.text m) (32 ∷ rest))

  create_line : (id : Id) (max : T) → event_text texts (CreateNode id max) ≡ line_of id (codes "create") (texts.text max)
  create_line id max = refl

  drop_line : (id : Id) (max : T) → event_text texts (RemoveNode id max) ≡ line_of id (codes "drop") (texts.text max)
  drop_line id max = refl

  insert_line : (id : Id) (max p : T) (i : ℕ) → event_text texts (InsertAt id max p i) ≡ line_of id (codes "insert") (named max (named p (decimal i)))
  insert_line id max p i = behind_name id (codes "insert") max (named p (decimal i))

  remove_line : (id : Id) (max p : T) (i : ℕ) → event_text texts (RemoveAt id max p i) ≡ line_of id (codes "remove") (named max (named p (decimal i)))
  remove_line id max p i = behind_name id (codes "remove") max (named p (decimal i))

  split_line : (id : Id) (max : T) (k : ℕ) → event_text texts (SplitNode id max k) ≡ line_of id (codes "split") (named max (decimal k))
  split_line id max k = behind_name id (codes "split") max (decimal k)

  merge_line : (id : Id) (max next : T) → event_text texts (MergeNodes id max next) ≡ line_of id (codes "merge") (named max (texts.text next))
  merge_line id max next = behind_name id (codes "merge") max (texts.text next)

module _ {T : Type 0} (output : T → Option (List ℕ)) (texts : Texts T) (shown : (x : T) → output x ≡ Some (texts.text x)) where
  pub event_is_shown : (e : ChangeEvent T) → event_shown output e ≡ Some (event_text texts e)
  event_is_shown (CreateNode id m) = rw (shown m) refl
  event_is_shown (RemoveNode id m) = rw (shown m) refl
  event_is_shown (InsertAt id m v i) = rw (shown m, shown v) (ap Some (sym (insert_line texts id m v i)))
  event_is_shown (RemoveAt id m v i) = rw (shown m, shown v) (ap Some (sym (remove_line texts id m v i)))
  event_is_shown (SplitNode id m k) = rw (shown m) (ap Some (sym (split_line texts id m k)))
  event_is_shown (MergeNodes id m w) = rw (shown m, shown w) (ap Some (sym (merge_line texts id m w)))

-- an item has no space
item_lacks : {T : Type 0} (texts : Texts T) → AreItems texts → (x : T) → texts.InRange x → Lacks 32 (texts.text x)
item_lacks texts items x r = lacks_tested 32 (texts.text x) (item_parts (texts.text x) (items.one_item x r)).1

module _ {T : Type 0} (texts : Texts T) (items : AreItems texts) where
  -- ---- what is items is read

  module _ (id : Id) (small : id.0 < 2 ^ 64) where
    line_told : (word rest : List ℕ) → Lacks 32 word → event_of texts (line_of id word rest) ≡ word_event texts id word rest
    line_told word rest lacks =
        let first : cut_at 32 (line_of id word rest) ≡ Some (decimal id.0, word ++ 32 ∷ rest) = cut_told 32 (decimal id.0) (word ++ 32 ∷ rest) (number_lacks 32 (omega arith) id.0 small) in
        let second : cut_at 32 (word ++ 32 ∷ rest) ≡ Some (word, rest) = cut_told 32 word rest lacks in
        rw (first, number_told id.0 small, second) refl

    module _ (max : T) (fit : texts.InRange max) where
      create_told : word_event texts id (codes "create") (texts.text max) ≡ Some (CreateNode id max)
      create_told = ap (option_map (CreateNode id)) (items.reads_back max fit)

      drop_told : word_event texts id (codes "drop") (texts.text max) ≡ Some (RemoveNode id max)
      drop_told = ap (option_map (RemoveNode id)) (items.reads_back max fit)

      -- the text is split after the maximum of the node
      name_cut : (f : List ℕ → T → Option (ChangeEvent T)) (rest : List ℕ) → option_and_then (λ cut. option_and_then (f cut.1) (texts.parse cut.0)) (cut_at 32 (named texts max rest)) ≡ f rest max
      name_cut f rest =
          let cut : cut_at 32 (named texts max rest) ≡ Some (texts.text max, rest) = cut_told 32 (texts.text max) rest (item_lacks texts items max fit) in
          rw (cut, items.reads_back max fit) refl

      split_told : (k : ℕ) → k < 2 ^ 64 → word_event texts id (codes "split") (named texts max (decimal k)) ≡ Some (SplitNode id max k)
      split_told k less = name_cut (λ rest m. named_event texts id (codes "split") m rest) (decimal k) ∙ ap (option_map (SplitNode id max)) (number_told k less)

      merge_told : (next : T) → texts.InRange next → word_event texts id (codes "merge") (named texts max (texts.text next)) ≡ Some (MergeNodes id max next)
      merge_told next fits = name_cut (λ rest m. named_event texts id (codes "merge") m rest) (texts.text next) ∙ ap (option_map (MergeNodes id max)) (items.reads_back next fits)

  -- an item and an index are split
  placed_cut : (f : T → ℕ → Option (ChangeEvent T)) (p : T) (i : ℕ) → texts.InRange p → i < 2 ^ 64
      → option_and_then (λ cut. option_and_then (λ q. option_and_then (f q) (number_of cut.1)) (texts.parse cut.0)) (cut_at 32 (named texts p (decimal i))) ≡ f p i
  placed_cut f p i fit less =
      let cut : cut_at 32 (named texts p (decimal i)) ≡ Some (texts.text p, decimal i) = cut_told 32 (texts.text p) (decimal i) (item_lacks texts items p fit) in
      rw (cut, items.reads_back p fit, number_told i less) refl

  insert_told : (id : Id) → id.0 < 2 ^ 64 → (max p : T) (i : ℕ) → texts.InRange max → texts.InRange p → i < 2 ^ 64
      → word_event texts id (codes "insert") (named texts max (named texts p (decimal i))) ≡ Some (InsertAt id max p i)
  insert_told id small max p i fit fits less =
      name_cut id small max fit (λ rest m. named_event texts id (codes "insert") m rest) (named texts p (decimal i)) ∙ placed_cut (placed_event texts id (codes "insert") max) p i fits less

  remove_told : (id : Id) → id.0 < 2 ^ 64 → (max p : T) (i : ℕ) → texts.InRange max → texts.InRange p → i < 2 ^ 64
      → word_event texts id (codes "remove") (named texts max (named texts p (decimal i))) ≡ Some (RemoveAt id max p i)
  remove_told id small max p i fit fits less =
      name_cut id small max fit (λ rest m. named_event texts id (codes "remove") m rest) (named texts p (decimal i)) ∙ placed_cut (placed_event texts id (codes "remove") max) p i fits less

  pub event_told : (e : ChangeEvent T) → EventInRange texts e → event_of texts (event_text texts e) ≡ Some e
  event_told (CreateNode id max) h =
      ap (event_of texts) (create_line texts id max) ∙ line_told id h.0 (codes "create") (texts.text max) (lacks_tested 32 (codes "create") refl)
      ∙ create_told id h.0 max h.1
  event_told (RemoveNode id max) h = ap (event_of texts) (drop_line texts id max) ∙ line_told id h.0 (codes "drop") (texts.text max) (lacks_tested 32 (codes "drop") refl) ∙ drop_told id h.0 max h.1
  event_told (InsertAt id max p i) h =
      ap (event_of texts) (insert_line texts id max p i) ∙ line_told id h.0 (codes "insert") (named texts max (named texts p (decimal i))) (lacks_tested 32 (codes "insert") refl)
      ∙ insert_told id h.0 max p i h.1 h.2 h.3
  event_told (RemoveAt id max p i) h =
      ap (event_of texts) (remove_line texts id max p i) ∙ line_told id h.0 (codes "remove") (named texts max (named texts p (decimal i))) (lacks_tested 32 (codes "remove") refl)
      ∙ remove_told id h.0 max p i h.1 h.2 h.3
  event_told (SplitNode id max k) h =
      ap (event_of texts) (split_line texts id max k) ∙ line_told id h.0 (codes "split") (named texts max (decimal k)) (lacks_tested 32 (codes "split") refl) ∙ split_told id h.0 max h.1 k h.2
  event_told (MergeNodes id max next) h =
      ap (event_of texts) (merge_line texts id max next) ∙ line_told id h.0 (codes "merge") (named texts max (texts.text next)) (lacks_tested 32 (codes "merge") refl)
      ∙ merge_told id h.0 max h.1 next h.2

module _ {T : Type 0} (texts : Texts T) where
  -- ---- what is read is items

  -- the text is that of the event
  abbrev IsTextOf : List ℕ → ChangeEvent T → Type 0
  IsTextOf text e = (text ≡ event_text texts e) × EventInRange texts e

same : (word text : List ℕ) → bytes_eq word text ≡ true → word ≡ text
same word text e = (bytes_eq-Decides word text).0 e

module _ {T : Type 0} (texts : Texts T) (items : AreItems texts) where
  module _ (id : Id) (small : id.0 < 2 ^ 64) (word : List ℕ) where
    -- the event from the text after the maximum of the node, and from the text after the word
    abbrev item_event : T → List ℕ × List ℕ → Option (ChangeEvent T)
    item_event max cut = option_and_then (λ p. option_and_then (placed_event texts id word max p) (number_of cut.1)) (texts.parse cut.0)

    abbrev name_event : List ℕ × List ℕ → Option (ChangeEvent T)
    name_event cut = option_and_then (λ max. named_event texts id word max cut.1) (texts.parse cut.0)

    placed_sound : (max p : T) (i : ℕ) (e : ChangeEvent T) → texts.InRange max → texts.InRange p → i < 2 ^ 64
        → placed_event texts id word max p i ≡ Some e → IsTextOf texts (line_of id word (named texts max (named texts p (decimal i)))) e
    placed_sound max p i e fit fits less h = at (bytes_eq word (codes "insert")) (bytes_eq word (codes "remove")) refl refl h
      where
        at : (a b : Bool) → bytes_eq word (codes "insert") ≡ a → bytes_eq word (codes "remove") ≡ b → cond a (Some (InsertAt id max p i)) (cond b (Some (RemoveAt id max p i)) None) ≡ Some e
            → IsTextOf texts (line_of id word (named texts max (named texts p (decimal i)))) e
        at true b is _ h =
            subst (IsTextOf texts (line_of id word (named texts max (named texts p (decimal i))))) (some_inj (InsertAt id max p i) e h)
            (ap (λ w. line_of id w (named texts max (named texts p (decimal i)))) (same word (codes "insert") is) ∙ sym (insert_line texts id max p i), (small, fit, fits, less))
        at false true _ is h =
            subst (IsTextOf texts (line_of id word (named texts max (named texts p (decimal i))))) (some_inj (RemoveAt id max p i) e h)
            (ap (λ w. line_of id w (named texts max (named texts p (decimal i)))) (same word (codes "remove") is) ∙ sym (remove_line texts id max p i), (small, fit, fits, less))
        at false false _ _ h = none_some e h

    named_sound : (max : T) (rest : List ℕ) (e : ChangeEvent T) → texts.InRange max → named_event texts id word max rest ≡ Some e → IsTextOf texts (line_of id word (named texts max rest)) e
    named_sound max rest e fit h = at (bytes_eq word (codes "split")) (bytes_eq word (codes "merge")) refl refl h
      where
        at : (a b : Bool) → bytes_eq word (codes "split") ≡ a → bytes_eq word (codes "merge") ≡ b
            → cond a (option_map (SplitNode id max) (number_of rest)) (cond b (option_map (MergeNodes id max) (texts.parse rest)) (option_and_then (item_event max) (cut_at 32 rest))) ≡ Some e
            → IsTextOf texts (line_of id word (named texts max rest)) e
        at true b is _ h =
            let made = map_some (number_of rest) (SplitNode id max) e h in
            let read = number_sound rest made.0 made.1 in
            subst (IsTextOf texts (line_of id word (named texts max rest))) made.2
            ((λ i. line_of id (same word (codes "split") is i) (named texts max (read.0 i))) ∙ sym (split_line texts id max made.0), (small, fit, read.1))
        at false true _ is h =
            let made = map_some (texts.parse rest) (MergeNodes id max) e h in
            let read = items.only rest made.0 made.1 in
            subst (IsTextOf texts (line_of id word (named texts max rest))) made.2
            ((λ i. line_of id (same word (codes "merge") is i) (named texts max (read.0 i))) ∙ sym (merge_line texts id max made.0), (small, fit, read.1))
        at false false _ _ h =
            let cut = then_some (cut_at 32 rest) (item_event max) e h in
            let first = then_some (texts.parse cut.0.0) (λ p. option_and_then (placed_event texts id word max p) (number_of cut.0.1)) e cut.2 in
            let second = then_some (number_of cut.0.1) (placed_event texts id word max first.0) e first.2 in
            let p = items.only cut.0.0 first.0 first.1 in
            let k = number_sound cut.0.1 second.0 second.1 in
            let text = cut_sound 32 rest cut.0.0 cut.0.1 cut.1 ∙ (λ i. p.0 i ++ 32 ∷ k.0 i) in
            let told = placed_sound max first.0 second.0 e fit p.1 k.1 second.2 in
            (ap (λ r. line_of id word (named texts max r)) text ∙ told.0, told.1)

    word_sound : (rest : List ℕ) (e : ChangeEvent T) → word_event texts id word rest ≡ Some e → IsTextOf texts (line_of id word rest) e
    word_sound rest e h = at (bytes_eq word (codes "create")) (bytes_eq word (codes "drop")) refl refl h
      where
        at : (a b : Bool) → bytes_eq word (codes "create") ≡ a → bytes_eq word (codes "drop") ≡ b
            → cond a (option_map (CreateNode id) (texts.parse rest)) (cond b (option_map (RemoveNode id) (texts.parse rest)) (option_and_then name_event (cut_at 32 rest))) ≡ Some e
            → IsTextOf texts (line_of id word rest) e
        at true b is _ h =
            let made = map_some (texts.parse rest) (CreateNode id) e h in
            let read = items.only rest made.0 made.1 in
            subst (IsTextOf texts (line_of id word rest)) made.2 ((λ i. line_of id (same word (codes "create") is i) (read.0 i)) ∙ sym (create_line texts id made.0), (small, read.1))
        at false true _ is h =
            let made = map_some (texts.parse rest) (RemoveNode id) e h in
            let read = items.only rest made.0 made.1 in
            subst (IsTextOf texts (line_of id word rest)) made.2 ((λ i. line_of id (same word (codes "drop") is i) (read.0 i)) ∙ sym (drop_line texts id made.0), (small, read.1))
        at false false _ _ h =
            let cut = then_some (cut_at 32 rest) name_event e h in
            let first = then_some (texts.parse cut.0.0) (λ max. named_event texts id word max cut.0.1) e cut.2 in
            let max = items.only cut.0.0 first.0 first.1 in
            let told = named_sound first.0 cut.0.1 e max.1 first.2 in
            (ap (line_of id word) (cut_sound 32 rest cut.0.0 cut.0.1 cut.1 ∙ ap (λ t. t ++ 32 ∷ cut.0.1) max.0) ∙ told.0, told.1)

  pub event_sound : (line : List ℕ) (e : ChangeEvent T) → event_of texts line ≡ Some e → (line ≡ event_text texts e) × EventInRange texts e
  event_sound line e h =
      let first = then_some (cut_at 32 line) (λ cut. option_and_then (λ n. option_and_then (λ more. word_event texts (record { 0 = n }) more.0 more.1) (cut_at 32 cut.1)) (number_of cut.0)) e h in
      let number = then_some (number_of first.0.0) (λ n. option_and_then (λ more. word_event texts (record { 0 = n }) more.0 more.1) (cut_at 32 first.0.1)) e first.2 in
      let second = then_some (cut_at 32 first.0.1) (λ more. word_event texts (record { 0 = number.0 }) more.0 more.1) e number.2 in
      let n = number_sound first.0.0 number.0 number.1 in
      let told = word_sound (record { 0 = number.0 }) n.1 second.0.0 second.0.1 e second.2 in
      (cut_sound 32 line first.0.0 first.0.1 first.1 ∙ (λ i. n.0 i ++ 32 ∷ cut_sound 32 first.0.1 second.0.0 second.0.1 second.1 i) ∙ told.0, told.1)

-- ---- an event's text is one line

number_line : (n : ℕ) → n < 2 ^ 64 → lacks 10 (decimal n) ≡ true
number_line n small = (item_parts (decimal n) (decimal_item n small)).0

module _ {T : Type 0} (texts : Texts T) (items : AreItems texts) where
  item_line : (x : T) → texts.InRange x → lacks 10 (texts.text x) ≡ true
  item_line x fit = (item_parts (texts.text x) (items.one_item x fit)).0

  head_line : (id : Id) (word : List ℕ) (m : T) → id.0 < 2 ^ 64 → lacks 10 word ≡ true → texts.InRange m → lacks 10 (event_head texts id word m) ≡ true
  head_line id word m small h fit = lacks_append 10 (decimal id.0) (word ++ texts.text m) (number_line id.0 small) (lacks_append 10 word (texts.text m) h (item_line m fit))

  place_line : (v : T) (i : ℕ) → texts.InRange v → i < 2 ^ 64 → lacks 10 (32 ∷ (texts.text v ++ 32 ∷ decimal i)) ≡ true
  place_line v i fit less = lacks_append 10 (texts.text v) (32 ∷ decimal i) (item_line v fit) (number_line i less)

  pub event_line : (e : ChangeEvent T) → EventInRange texts e → lacks 10 (event_text texts e) ≡ true
  event_line (CreateNode id m) h = head_line id (codes " create ") m h.0 refl h.1
  event_line (RemoveNode id m) h = head_line id (codes " drop ") m h.0 refl h.1
  event_line (InsertAt id m v i) h =
      lacks_append 10 (event_head texts id (codes " insert ") m) (32 ∷ (texts.text v ++ 32 ∷ decimal i)) (head_line id (codes " insert ") m h.0 refl h.1) (place_line v i h.2 h.3)
  event_line (RemoveAt id m v i) h =
      lacks_append 10 (event_head texts id (codes " remove ") m) (32 ∷ (texts.text v ++ 32 ∷ decimal i)) (head_line id (codes " remove ") m h.0 refl h.1) (place_line v i h.2 h.3)
  event_line (SplitNode id m k) h = lacks_append 10 (event_head texts id (codes " split ") m) (32 ∷ decimal k) (head_line id (codes " split ") m h.0 refl h.1) (number_line k h.2)
  event_line (MergeNodes id m w) h = lacks_append 10 (event_head texts id (codes " merge ") m) (32 ∷ texts.text w) (head_line id (codes " merge ") m h.0 refl h.1) (item_line w h.2)
