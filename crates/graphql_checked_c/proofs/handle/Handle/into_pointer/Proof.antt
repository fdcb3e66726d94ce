-- `into_pointer` takes the box out of a handle that is not empty.
use Rattle.std.proofs.Common.{◌≡◌, ◌≢◌, List, [], ◌∷◌, ◌++◌, refl, sym, subst}
use Rattle.std.specs.Prelude.{Option, Some, None}
use mir.Raw.{raw as bare}
use mir.Syntax.{impl, tnil, dnil}
use mir.Val.{Val, vptr}
use base.Logic.{SProp, ent, emp, id⊢, fst∗, never}
use base.Fml.{ftrue}
use prog.Wp.{WpFn}
use types.Logic.{sem}
use types.Kit.{‵, raw, ◌⊛◌, ◌$◌, ◌∵◌, !, qed, by, move, keep, split, fsplit, fjoin, suffices, use0, use1, rewrite}
use types.Run.{stop, fld, of_opd, no_more, and_then, returns, enter}
use types.ByLocal.{alloc_all, pass_all, free_all, look_at, get, get_in, sets}
use types.Part.{agg, sub, whole}
use contract.Monad.{fact, fact_i}
use contract.Running.{tables}
use denote.Exit.{yes}
use denote.Memory.{lone}
use denote.RattleType.{RattleType, owns}
use denote.RawPtr.{Ptr, block_ptr, null_ptr, in_a_block}
use denote.Steps.{nothing, heard}
use denote.Signature.{types_at, plain}
use denote.Triple.Walked.{Stays, stay_dropped, walk_of}
use Rattle.core.proofs.alloc.Calls.{Al, Goes-blank, handle_tells}
use Rattle.std.proofs.raw_atomic.Walks.{proved_at, leaves}
use Rattle.std_alloc.specs.Box.Ownership.{box_owns}
use Rattle.std.specs.contracts.alloc.Global as global
use Rattle.std.specs.contracts.impls.GlobalAllocator.TheImpl.{ghosts}
use Rattle.std.proofs.alloc.Global.TheLaws as of_global
use Rattle.graphql_checked_c.specs.Held.{token, held}
use Rattle.graphql_checked_c.proofs.Handles.{word, handle_out}
use Rattle.ffi_memory.proofs.Pointers.{of_two, is_typed, pointer_made}
use Rattle.graphql_checked_c.specs.contracts.handle.Kept as kept
use Rattle.graphql_checked_c.specs.contracts.handle.Handle as handle
use Rattle.graphql_checked_c.specs.contracts.handle.Handle.into_pointer.{ended, clauses}
use Rattle.graphql_checked_c.specs.contracts.handle.Handle.into_pointer.Key.{name as #self}
use Rattle.graphql_checked_c.proofs.handle.Handle.into_pointer.Statement.{statement}
use Rattle.graphql_checked_c.proofs.handle.Handle.into_pointer.Code as code

is_some : {A : Type 0} (x : Option A) → x ≢ None → (y : A) × (x ≡ Some y)
is_some None not = absurd (not refl)
is_some (Some y) not = (y, refl)

pub into_pointer_spec : {M : Type 1} → statement M
into_pointer_spec 𝓤 𝓛 𝓜 𝓡 wired =
    let H = 𝓛.H in let 𝓣 = tables 𝓤 H 𝓜 𝓡 𝓡.env in let c = clauses 𝓛 𝓜.mem 𝓡.returns in let fn = code.function in
    let R : RattleType = kept.the_row in let Z : RattleType = global.the_row in let LZ = of_global.the_row_laws in let Hr : RattleType = handle.the_row in
    let al : Al = record { row = Z; laws = LZ; g = ghosts; d = impl [] tnil dnil; drops = impl [] tnil dnil } in
    let hs : Stays ended.signature.params ended.kept = (stay_dropped (plain (λ _. Hr)) yes, (stay_dropped (plain (λ _. Z)) yes, tt)) in
    proved_at 𝓛 ended hs c 𝓜 𝓡 (Goes-blank 𝓛 0 (plain (λ _. Hr)) yes (λ κs x f. tt), (Goes-blank 𝓛 0 (plain (λ _. Z)) yes (λ κs x f. tt), tt)) #self fn (code.unfolded 𝓤 H 𝓜 𝓡 wired) (λ z are.
    let d = z.0.3.0 in let a = z.0.3.1.0 in let Post : Val → SProp 𝓤 = (walk_of 𝓛 ended hs c).post z in let Run : List Val → SProp 𝓤 = λ ws. WpFn 𝓤 H 𝓣.C 𝓣.Λ fn ws Post in
    qed 𝓛 ((‵ ftrue ⊛ ‵ (owns (types_at ended.signature.params z.0.0) z.0.3 z.0.4)) ∷ raw ((c z.0.0 z.0.3).requires z.1) ∷ []) ∵
    split ! $ move ! (1 ∷ []) $ fsplit ! $ handle_out ! d z.0.4.0 (λ e0. move ! (1 ∷ []) $ fsplit ! $ handle_tells al ! a z.0.4.1.0 (λ h e1 fits.
    move ! (4 ∷ []) $ use1 𝓛 (raw (fact 𝓤 (d.value ≢ None))) (id⊢ 𝓤 _) $ heard ! (d.value ≢ None) (λ some.
    let full : (x : R.Denot) × (d.value ≡ Some x) = is_some d.value some in let x : R.Denot = full.0 in
    move ! (2 ∷ []) $ rewrite ! 0 (λ (v : Option R.Denot). ‵ (held R d.at v)) full.1 refl $
    in_a_block ! d.at (λ (p : Ptr). box_owns token R p x) (fst∗ 𝓤 (never 𝓤) (sem 𝓛 (token (bare (lone R.mir)) null_ptr))) (λ b o eb.
    let us : List Val = word (block_ptr b o) ∷ h ∷ [] in let ew : z.0.4.0 ≡ word (block_ptr b o) ∷ [] = subst (λ (p : Ptr). z.0.4.0 ≡ word p ∷ []) eb e0 in
    suffices ! (Run us) (subst (λ (ws : List Val). ent 𝓤 (Run us) (Run ws)) (sym (λ i. ew i ++ (e1 i ++ []))) (id⊢ 𝓤 (Run us))) $
    enter ! 𝓣.C 𝓣.Λ fn us Post $ alloc_all ! (λ l. pass_all ! refl ((tt, (tt, tt)), (fits, tt)) $
    sets ! (of_opd ! (get_in ! (fld ! refl (stop !)) (sub ! 0 refl (whole !)))) refl (tt, tt) $ sets ! (of_opd ! (get ! refl)) refl (tt, tt) $
    sets ! (agg ! (and_then ! (get ! refl) (and_then ! (get ! refl) (no_more !)))) refl (is_typed R Z LZ ghosts b o h fits) $
    pointer_made R Z LZ ghosts ! b o h a x $ use0 𝓛 (raw (fact 𝓤 (d.value ≡ Some x))) (fact_i 𝓤 (d.value ≡ Some x) (emp 𝓤) full.1) $ nothing ! $ nothing ! $ fjoin ! $ nothing ! $ fjoin ! $
    returns ! (look_at ! 0 refl) $ free_all ! refl $ keep ! (4 ∷ 0 ∷ 2 ∷ 1 ∷ []) $ by ! (leaves 𝓛 ended hs c z (of_two (vptr b o) h) (record { at = block_ptr b o; alloc = a; value = x }) (tt, (record {}, tt)) (tt, (tt, tt)))))))))
