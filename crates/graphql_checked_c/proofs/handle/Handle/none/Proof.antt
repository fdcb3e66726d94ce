-- `none` makes a handle that owns nothing.
use Rattle.std.proofs.Common.{◌≡◌, [], ◌∷◌, refl}
use Rattle.std.specs.Prelude.{Option, None}
use mir.Val.{Val}
use base.Logic.{SProp, emp}
use base.Fml.{ftrue}
use types.Kit.{‵, raw, ◌⊛◌, ◌$◌, ◌∵◌, !, qed, by, move, keep, split, use0}
use types.Run.{lit, no_more, and_then, returns, enter}
use types.ByLocal.{alloc_all, pass_all, free_all, look_at, sets}
use types.Part.{agg}
use contract.Monad.{fact, fact_i}
use contract.Running.{tables}
use denote.RattleType.{owns}
use denote.RawPtr.{null_ptr}
use denote.Steps.{nothing}
use denote.Signature.{types_at}
use denote.Triple.Walked.{Stays, walk_of}
use Rattle.std_alloc.proofs.RcSteps.{Ptr-Good}
use Rattle.std.proofs.raw_atomic.Walks.{proved_at, leaves}
use Rattle.graphql_checked_c.proofs.Handles.{word, handle_in}
use Rattle.graphql_checked_c.specs.contracts.handle.Kept as kept
use Rattle.graphql_checked_c.specs.contracts.handle.Handle.none.{ended, clauses}
use Rattle.graphql_checked_c.specs.contracts.handle.Handle.none.Key.{name as #self}
use Rattle.graphql_checked_c.proofs.handle.Handle.none.Statement.{statement}
use Rattle.graphql_checked_c.proofs.handle.Handle.none.Code as code

pub none_spec : {M : Type 1} → statement M
none_spec 𝓤 𝓛 𝓜 𝓡 wired =
    let H = 𝓛.H in let 𝓣 = tables 𝓤 H 𝓜 𝓡 𝓡.env in let c = clauses 𝓛 𝓜.mem 𝓡.returns in let fn = code.function in
    let hs : Stays ended.signature.params ended.kept = tt in
    proved_at 𝓛 ended hs c 𝓜 𝓡 tt #self fn (code.unfolded 𝓤 H 𝓜 𝓡 wired) (λ z are.
    let e : Option kept.the_row.Denot = None in let Post : Val → SProp 𝓤 = (walk_of 𝓛 ended hs c).post z in
    qed 𝓛 ((‵ ftrue ⊛ ‵ (owns (types_at ended.signature.params z.0.0) z.0.3 z.0.4)) ∷ raw ((c z.0.0 z.0.3).requires z.1) ∷ []) ∵
    enter ! 𝓣.C 𝓣.Λ fn [] Post $ alloc_all ! (λ l. pass_all ! refl tt $
    sets ! (agg ! (and_then ! (lit ! tt) (no_more !))) refl (tt, ((Ptr-Good null_ptr).1, tt)) $
    nothing ! $ handle_in ! null_ptr e $ use0 𝓛 (raw (fact 𝓤 (e ≡ e))) (fact_i 𝓤 (e ≡ e) (emp 𝓤) refl) $
    returns ! (look_at ! 0 refl) $ free_all ! refl $ move ! (2 ∷ []) $ split ! $ keep ! (0 ∷ 1 ∷ 3 ∷ 2 ∷ []) $ by ! (leaves 𝓛 ended hs c z (word null_ptr) (record { at = null_ptr; value = e }) tt tt)))
