-- The next pair is borrowed mutably as an `Option`, which the borrow checker does not cover. First
-- `ready` is asked, of the iterator lent again for a lifetime within the old one;
-- then `next_pair` lends the pair as it is.
use Rattle.indexset_set.proofs.LentPairs.{proved, leaves, Some-of, none_of, a_type, named, dcons, dnil, Val, vptr}
use Rattle.indexset_set.proofs.LentPairs.{vstruct, vcons, vnil, of_list, inst_fn, SProp, emp, id⊢, sep, wand}
use Rattle.indexset_set.proofs.LentPairs.{apply∗, ftrue, flft, fdead, fres, Lft, GName, Item, ‵, raw, ◌⊛◌, some}
use Rattle.indexset_set.proofs.LentPairs.{later, at_ret, ◌$◌, ◌∵◌, !, qed, by, move, keep, drop, split, split3}
use Rattle.indexset_set.proofs.LentPairs.{join, fsplit, fsplit3, fjoin, pick, use0, use1, use2, use3, feq_l}
use Rattle.indexset_set.proofs.LentPairs.{await, rewrite, stop, addr, lit, of_opd, no_more, and_then, first}
use Rattle.indexset_set.proofs.LentPairs.{branches, skips, exec, returns, returns_within, enter, alloc_all}
use Rattle.indexset_set.proofs.LentPairs.{pass_all, free_all, look_at, get, through, sets, lands_as, env, agg}
use Rattle.indexset_set.proofs.LentPairs.{live, tables, fact, fact_i, ◌⊑◌, no, LentAgain, lends_again, comes_back}
use Rattle.indexset_set.proofs.LentPairs.{lft_new, lft_end, lft-common, common, mem-append_left, mem-append_right}
use Rattle.indexset_set.proofs.LentPairs.{full_share, RattleType, owns, types_at, plain, RefMutOf, bool, MutRef}
use Rattle.indexset_set.proofs.LentPairs.{ShrRef, MutBor, mut_vals, mut_Tells, nothing, only, peeks, heard, Is}
use Rattle.indexset_set.proofs.LentPairs.{shows, param, bounded, Tuple, lasts, triple_of, calls_at, framed, Stays}
use Rattle.indexset_set.proofs.LentPairs.{stay_dropped, walk_of, Goes-spent_ref, after, is_true, is_false, is_low}
use Rattle.std.proofs.Common.{◌≡◌, ℕ, ◌<◌, Bool, false, [], ◌∷◌, ◌++◌, length, Option, Some, None, slice_get, refl, sym, ap, ◌∙◌, lit<, nat_lt, ◌≤◌, w64, arith}
use Rattle.std.specs.Option.{option_map}
use mir.Val.{vint}
use denote.Exit.{yes}
use base.Share
use Rattle.std.proofs.lemmas.Bool.Decides.{nat_tests}
use denote.Follow.{follows, follows_by}
use Rattle.indexset_set.specs.contracts.pairs.BTreeSet+Pair+K+V.reaches as r
use Rattle.indexset_set.proofs.pairs.BTreeSet+Pair+K+V.reaches.Met as ready
use denote.Builtin.{usize}
use denote.Plain.{uint_vals, uint_Tells, uint_Makes}
use denote.Steps.{owned}
use denote.Triple.Walked.{Goes-dropped}
use Rattle.std.specs.contracts.option.Option as OP
use Rattle.indexset_core.specs.Pairs.{entry_of}
use Rattle.indexset_set.specs.SetPairs.{with_value_at}
use Rattle.indexset_set.specs.SetLends.{pairs_row}
use Rattle.indexset_spine.specs.NodeList.{items}
use Rattle.std.proofs.lemmas.Option.{slice_get_past}
use Rattle.indexset_set.specs.contracts.pairs.BTreeSet+Pair+K+V.pair_at_mut as g
use Rattle.indexset_set.proofs.pairs.BTreeSet+Pair+K+V.pair_at_mut.Met as theirs
use Rattle.indexset_set.specs.contracts.pairs.BTreeSet+Pair+K+V.pair_mut.{ended, clauses}
use Rattle.indexset_set.specs.contracts.pairs.BTreeSet+Pair+K+V.pair_mut.Key.{name as #self}
use Rattle.indexset_set.proofs.pairs.BTreeSet+Pair+K+V.pair_mut.Statement.{statement}
use Rattle.indexset_set.proofs.pairs.BTreeSet+Pair+K+V.pair_mut.Code as code

is_after_last : (a b : ℕ) (u : Bool) → u ≡ nat_lt a b → u ≡ false → b ≤ a
is_after_last a b u e h = let t : nat_lt a b ≡ false = sym e ∙ h in grind (arith, nat_tests)

pub pair_mut_spec : {M : Type 1} → statement M
unfolding follows_by
pair_mut_spec 𝓤 𝓛 𝓜 𝓡 wired X Y LX LY o₀ d₀ o₁ d₁ o₂ d₂ o₃ d₃ m₀ m₁ m₂ m₃ =
    let H = 𝓛.H in let 𝓣 = tables 𝓤 H 𝓜 𝓡 𝓡.env in let K : RattleType = param 0 X in let V : RattleType = param 1 Y in let En = ended X Y o₀ d₀ o₁ d₁ o₂ d₂ o₃ d₃ in
    let inst = bounded (a_type ∷ a_type ∷ []) (X, (Y, tt)) (dcons d₀ (dcons d₁ (dcons d₂ (dcons d₃ dnil)))) in
    let fn = inst_fn inst code.function in let c = clauses X Y o₀ d₀ o₁ d₁ o₂ d₂ o₃ d₃ 𝓛 𝓜.mem 𝓡.returns in
    let Row : RattleType = pairs_row K V (record { partial_cmp = o₃.partial_cmp; eq = o₂.eq; cmp = o₀.cmp }) in
    let G = triple_of 𝓛 (g.signature X Y o₀ d₀ o₁ d₁ o₂ d₂ o₃ d₃) (g.spec X Y o₀ d₀ o₁ d₁ o₂ d₂ o₃ d₃ 𝓛 𝓜.mem 𝓡.returns) in
    let met = theirs.met 𝓤 𝓛 𝓜 𝓡 (code.calls-indexset_set::pairs::BTreeSet+Pair+K+V::pair_at_mut 𝓡.env wired) X Y LX LY o₀ d₀ o₁ d₁ o₂ d₂ o₃ d₃ m₀ m₁ m₂ m₃ in
    let Rd = triple_of 𝓛 (r.signature X Y o₀ d₀ o₁ d₁ o₂ d₂ o₃ d₃) (r.spec X Y o₀ d₀ o₁ d₁ o₂ d₂ o₃ d₃ 𝓛 𝓜.mem 𝓡.returns) in
    let metR = ready.met 𝓤 𝓛 𝓜 𝓡 (code.calls-indexset_set::pairs::BTreeSet+Pair+K+V::reaches 𝓡.env wired) X Y LX LY o₀ d₀ o₁ d₁ o₂ d₂ o₃ d₃ m₀ m₁ m₂ m₃ in
    let hs : Stays En.signature.params En.kept = (stay_dropped (RefMutOf (0 ∷ []) tt (plain (λ _. Row)) (λ _. tt)) no, (stay_dropped (plain (λ _. usize)) yes, tt)) in
    proved 𝓛 En hs c 𝓜 𝓡 (Goes-spent_ref 𝓛 3 (0 ∷ []) tt (plain (λ _. Row)), (Goes-dropped 𝓛 3 (plain (λ _. usize)) yes (λ κs x f. refl), tt))
    (#self inst) fn (code.unfolded 𝓤 H 𝓜 𝓡 wired (X, (Y, tt)) d₀ d₁ d₂ d₃)
    (λ κs. (mut_vals, (uint_vals w64, tt))) (λ κs. (mut_Tells (named 0) κs.0 Row, (uint_Tells w64, tt))) (λ κs qs bounds a gh are.
    let i : ℕ = a.1.0 in let fits = are.1.0.1 in
    let s = a.0 in let b : ℕ = s.ref_ptr.0 in let o : ℕ = s.ref_ptr.1 in let κ : Lft = κs.0 in let q = qs.0 in
    let found : Option (X.Denot × Y.Denot) = option_map entry_of (slice_get (items s.now) i) in
    let Lent : RattleType = Tuple (ShrRef (named 0) κs.0 K ∷ MutRef (named 0) κs.0 V ∷ []) in let OL : RattleType = OP.the_row Lent in
    let others : Item 𝓤 = ‵ (flft κs.1.0 qs.1.0) ⊛ ‵ (flft κs.1.1.0 qs.1.1.0) ⊛ ‵ ftrue in let tokens : Item 𝓤 = ‵ (flft κ q) ⊛ others in
    let Ref = λ (κ' : Lft) (x : MutBor Row.Denot). (MutRef (named 0) κ' Row).own_val x (mut_vals s) in
    let y : (walk_of 𝓛 En hs c).Ghost = ((κs, qs, bounds, a, (mut_vals s, (uint_vals w64 i, tt))), gh) in let Post : Val → SProp 𝓤 = (walk_of 𝓛 En hs c).post y in
    let inK : Type 0 = κs.1.0 ⊑ X.lives in let inV : Type 0 = κs.1.1.0 ⊑ Y.lives in let Low : Type 0 = i < length (items s.now) in
    qed 𝓛 ((tokens ⊛ ‵ (owns (types_at En.signature.params κs) a y.0.4)) ∷ raw (fact 𝓤 inK) ∷ raw (fact 𝓤 inV) ∷ ‵ ftrue ∷ []) ∵
    move ! (1 ∷ 2 ∷ 3 ∷ []) $ heard ! inK (λ lk. heard ! inV (λ lv. drop ! $ split ! $ move ! (1 ∷ []) $ fsplit ! $ move ! (1 ∷ []) $ drop ! $
    -- [self; the tokens]
    enter ! 𝓣.C 𝓣.Λ fn (vptr b o ∷ vint w64 i ∷ []) Post $ alloc_all ! (λ l. pass_all ! refl ((tt, tt), ((tt, record { fits = fits }), tt)) $ let Ev = env fn.locals l in
    sets ! (addr ! (through ! refl (stop !))) refl (tt, tt) $ move ! (1 ∷ []) $ split ! $
    -- [the token of κ; the other tokens; self]
    use1 𝓛 (‵ (flft κ (Share.left q)) ⊛ ‵ (flft κ (Share.right q))) (𝓛.lfts.lft_split κ q) $ split ! $
    lft_new ! tt (λ α. let ν : Lft = (α ∷ []) ++ κ in let t = (common full_share (Share.right q)).0 in let Both = sep 𝓤 (𝓛.A.lft (α ∷ []) full_share) (𝓛.A.lft κ (Share.right q)) in
    move ! (0 ∷ 2 ∷ []) $ use2 𝓛 (‵ (flft ν t) ⊛ raw (wand 𝓤 (𝓛.A.lft ν t) Both)) (lft-common 𝓛 (α ∷ []) κ full_share (Share.right q)) $ split ! $ move ! (4 ∷ 2 ∷ []) $
    use2 𝓛
    (later
    (some
    (λ (δ : GName). ‵ (Ref ν (record s { ghost_name = δ }))
    ⊛ ‵ (LentAgain Row κ ν (Share.left q) s.ghost_name b o δ s.now))))
    (lends_again 𝓛 Row (named 0) κ ν (Share.left q) s.ghost_name b o (named 0) s.now) $
    await ! tt $ pick ! (λ δ. split ! $
    -- [the loan; what the lender keeps; the token of ν; what gives it back; the other tokens]
    let x : Rd.Ghost = (
      (
        (ν, κs.1),
        (t, qs.1),
        ((λ a m. mem-append_right (α ∷ []) (bounds.0 a m)), ((λ a m. mem-append_right (α ∷ []) (bounds.1.0 a m)), tt)),
        (record s { ghost_name = δ }, (i, tt)),
        (mut_vals s, (uint_vals w64 i, tt)),
      ),
      tt,
    ) in
    nothing ! $ owned ! usize _ (uint_Makes 𝓛 w64) i _ (refl, fits) $ fjoin ! $ move ! (1 ∷ 0 ∷ []) $ fjoin ! $ move ! (4 ∷ []) $ move ! (3 ∷ 0 ∷ []) $ join ! $ join ! $
    nothing ! $ use0 𝓛 (raw (fact 𝓤 inV)) (fact_i 𝓤 inV (emp 𝓤) lv) $ join ! $ use0 𝓛 (raw (fact 𝓤 inK)) (fact_i 𝓤 inK (emp 𝓤) lk) $ join ! $
    move ! (1 ∷ 0 ∷ []) $ use2 𝓛 (raw (Rd.pre x)) (id⊢ 𝓤 _) $
    calls_at ! (framed 𝓤 H 𝓜 𝓣) Rd metR x (and_then ! (get ! refl) (and_then ! (get ! refl) (no_more !))) (λ w.
    use1 𝓛
    (later
    (some
    (λ (has : Bool). ((‵ (flft ν t) ⊛ others) ⊛ ‵ (bool.own_val has (w ∷ [])))
    ⊛ some
    (λ (ws : Row.Denot × (Unit {0} × Unit {0})). ‵ (lasts (r.ended X Y o₀ d₀ o₁ d₁ o₂ d₂ o₃ d₃) x.0.0 x.0.3 ws)
    ⊛ raw (fact 𝓤 ((has ≡ nat_lt i (length (items s.now))) × (ws.0 ≡ s.now)))))))
    (id⊢ 𝓤 _) $
    await ! tt $ pick ! (λ has. split ! $ split ! $ split ! $ move ! (0 ∷ 5 ∷ []) $
    use2 𝓛 (‵ (flft (α ∷ []) full_share) ⊛ ‵ (flft κ (Share.right q))) (apply∗ 𝓤 (𝓛.A.lft ν t) Both) $ split ! $
    lft_end ! tt $ use1 𝓛 (‵ (fdead ν)) (𝓛.lfts.dead-incl ν (α ∷ []) (λ a m. mem-append_left κ m)) $
    move ! (3 ∷ []) $ feq_l ! (λ is_has. lands_as ! (ap only is_has) refl (tt, tt) $
    move ! (3 ∷ []) $ pick ! (λ us. split ! $ move ! (1 ∷ []) $ heard ! _ (λ told. fsplit ! $ fsplit ! $
    rewrite ! 0 (λ (m : Row.Denot). ‵ (fres δ (Row.coded.code m))) told.1 refl $
    -- [the loan's last value; its borrow; the position; ν is over; the right half of κ's token;
    -- the other tokens; what the lender keeps]
    move ! (3 ∷ 6 ∷ 0 ∷ []) $ use3 𝓛 (later (‵ (Ref κ s) ⊛ ‵ (flft κ (Share.left q)))) (comes_back 𝓛 Row (named 0) κ ν (Share.left q) s.ghost_name b o δ s.now s.now) $ await ! tt $ split ! $
    move ! (2 ∷ []) $ drop ! $ move ! (2 ∷ []) $ drop ! $ move ! (1 ∷ 2 ∷ []) $ use2 𝓛 (‵ (flft κ q)) (𝓛.lfts.lft_join κ q) $ move ! (0 ∷ 2 ∷ []) $ join ! $ move ! (1 ∷ 0 ∷ []) $
    sets ! (of_opd ! (get ! refl)) refl (tt, tt) $ first ! $ branches ! (get ! refl)
    (λ t. let z : G.Ghost = ((κs, qs, bounds, (s, (i, tt)), (mut_vals s, (uint_vals w64 i, tt))), tt) in
    sets ! (addr ! (through ! refl (stop !))) refl (tt, tt) $
    nothing ! $ owned ! usize _ (uint_Makes 𝓛 w64) i _ (refl, fits) $ fjoin ! $ move ! (1 ∷ 0 ∷ []) $ fjoin ! $ move ! (1 ∷ 0 ∷ []) $ join ! $
    use0 𝓛 (raw (fact 𝓤 Low)) (fact_i 𝓤 Low (emp 𝓤) (is_low i (length (items s.now)) has told.0 (is_true has t))) $
    use0 𝓛 (raw (fact 𝓤 inV)) (fact_i 𝓤 inV (emp 𝓤) lv) $ join ! $
    use0 𝓛 (raw (fact 𝓤 inK)) (fact_i 𝓤 inK (emp 𝓤) lk) $ join ! $
    move ! (1 ∷ 0 ∷ []) $ use2 𝓛 (raw (G.pre z)) (id⊢ 𝓤 _) $
    calls_at ! (framed 𝓤 H 𝓜 𝓣) G met z (and_then ! (get ! refl) (and_then ! (get ! refl) (no_more !))) (λ v.
    use1 𝓛
    (later
    (some
    (λ (r : Lent.Denot). (tokens ⊛ ‵ (Lent.own_val r (v ∷ [])))
    ⊛ some
    (λ (ws : Unit {0} × (Unit {0} × Unit {0})). ‵ (lasts (g.ended X Y o₀ d₀ o₁ d₁ o₂ d₂ o₃ d₃) κs (s, (i, tt)) ws)
    ⊛ ‵ (follows Row V s.ghost_name r.1.ghost_name (with_value_at s.now i)) ⊛ raw (fact 𝓤 (found ≡ Some (r.0.now, r.1.now))))))) (id⊢ 𝓤 _) $
    await ! tt $ pick ! (λ r. split ! $ split ! $ move ! (1 ∷ []) $
    -- [the pair; the tokens; what the call ensures]
    peeks ! Lent (Is Lent) (shows 𝓛 Lent) r (v ∷ []) (λ is. let pair : Val = vstruct (vcons (vptr r.0.ref_ptr.0 r.0.ref_ptr.1) (vcons (vptr r.1.ref_ptr.0 r.1.ref_ptr.1) vnil)) in
    let e : v ≡ pair = ap only (is.1.0 ∙ (λ j. vstruct (of_list (is.1.1.0.0 j ++ (is.1.1.1.0.0 j ++ []))) ∷ [])) in
    let Told : Type 0 = Some (r.0.now, r.1.now) ≡ found in
    rewrite ! 0 (λ (u : Val). ‵ (Lent.own_val r (u ∷ []))) e refl $ use1 𝓛 (‵ (OL.own_val (Some r) (live 1 (of_list (pair ∷ [])) ∷ []))) (Some-of 𝓛 Lent r pair) $
    move ! (2 ∷ []) $ pick ! (λ ws. split3 ! $ drop ! $ move ! (1 ∷ []) $ heard ! _ (λ value.
    -- [what follows; the result; the tokens]
    lands_as ! e refl (tt, (tt, (tt, tt))) $
    sets ! (agg ! (and_then ! (lit ! tt) (and_then ! (get ! refl) (no_more !)))) refl (tt, (record { fits = lit< tt }, ((tt, (tt, tt)), tt))) $
    use0 𝓛 (raw (fact 𝓤 Told)) (fact_i 𝓤 Told (emp 𝓤) (sym value)) $
    move ! (1 ∷ 0 ∷ []) $ join ! $ nothing ! $ nothing ! $ fjoin ! $ nothing ! $ fjoin ! $
    returns_within ! Post refl (look_at ! 0 refl) $ free_all ! refl $ keep ! (3 ∷ 0 ∷ 2 ∷ 1 ∷ []) $
    by ! (leaves 𝓛 En hs c y (live 1 (of_list (pair ∷ []))) (Some r) (tt, (tt, tt)) (tt, (tt, tt)))))))))
    (λ f. let Told : Type 0 = None ≡ found in
    skips ! $ exec ! 𝓣.C 𝓣.Λ Ev (after 4 fn.body) (at_ret Ev Post) $
    sets ! (agg ! (and_then ! (lit ! tt) (no_more !))) refl (tt, (record { fits = lit< tt }, tt)) $
    fsplit3 ! $ drop ! $ use1 𝓛 (‵ (fres s.ghost_name (Row.coded.code s.now))) (𝓛.names.obs-res s.ghost_name (Row.coded.code s.now)) $
    returns ! (look_at ! 0 refl) $ free_all ! refl $ keep ! (0 ∷ 2 ∷ []) $
    use0 𝓛 (‵ (OL.own_val None (live 0 vnil ∷ []))) (none_of 𝓛 Lent) $
    use0 𝓛 (raw (fact 𝓤 Told)) (fact_i 𝓤 Told (emp 𝓤) (sym (ap (option_map entry_of) (slice_get_past (items s.now) i (is_after_last i (length (items s.now)) has told.0 (is_false has f)))))) $
    move ! (2 ∷ 0 ∷ []) $ join ! $ nothing ! $ nothing ! $ fjoin ! $ nothing ! $ fjoin ! $
    keep ! (3 ∷ 0 ∷ 2 ∷ 1 ∷ []) $ by ! (leaves 𝓛 En hs c y (live 0 vnil) None (tt, (tt, tt)) (tt, (tt, tt)))))))))))))))
