-- The machine value of a pointer of a box, taken apart and made.
--     of_two           a struct of two machine values
--     is_typed         the pointer with its allocator's machine value has its type, and fits
--     pointer_parts    what is owned of a pointer: [the value with the right to free its block; the allocator]
--     pointer_made     and back
use Rattle.std.proofs.Common.{◌≡◌, ℕ, List, [], ◌∷◌, ◌++◌, refl, subst}
use mathlib.Core.Bool.{true, ◌&&◌}
use lib.Dec.{T}
use seplogic.Ra.Ura.{Ura}
use mir.Syntax.{impl, tnil, dnil}
use mir.Raw.{raw as bare}
use mir.Val.{Val, vptr, vstruct, vcons, vnil, of_list, has_ty, WT}
use base.Logic.{never, fst∗}
use types.Logic.{Logic, sem}
use types.Kit.{Item, Goal, Seq, Step, step, ‵, ◌$◌, move, drop, fsplit, fjoin, fpick, fpack, feq_i, feq_l}
use denote.RattleType.{RattleType, Valss}
use denote.Builtin.{RawPtr}
use denote.Memory.{lone}
use denote.RawPtr.{Ptr, block_ptr, null_ptr, ptr_val, in_a_block}
use denote.Steps.{nothing}
use denote.Param.{layout}
use denote.Param.Laws.{Laws}
use denote.Struct.Struct.{within}
use denote.Struct.Owning.{shape}
use Rattle.core.specs.declared.alloc.Allocator.{Ghosts}
use Rattle.core.proofs.alloc.Calls.{Al, handle_tells}
use Rattle.core.proofs.cell.Inside.{Good}
use Rattle.std_alloc.specs.Box.Ownership.{box_owns}
use Rattle.std_alloc.proofs.ResultValues.{and_tt}
use Rattle.ffi_memory.specs.contracts.box_pointer.BoxPointer as pointer

abbrev pub of_two : Val → Val → Val
of_two at handle = vstruct (vcons at (vcons handle vnil))

module _ (Row Alloc : RattleType) (laws : Laws Alloc) (ghosts : Ghosts Alloc.Denot) where
  abbrev pub Owned : Alloc.Denot → Ptr → Row.Denot → base.Fml.Fml
  Owned alloc = box_owns (ghosts.dealloc_token alloc) Row

  abbrev handles : Al
  handles = record { row = Alloc; laws = laws; g = ghosts; d = impl [] tnil dnil; drops = impl [] tnil dnil }

  pub is_typed : (b o : ℕ) (handle : Val) → Good (layout Alloc) handle → T (has_ty (layout Alloc) handle && true) × WT (of_two (vptr b o) handle)
  is_typed b o handle good = (and_tt (has_ty (layout Alloc) handle) good.0, (tt, (good.1, tt)))

  module _ {M : Type 1} {𝓤 : Ura M} {𝓛 : Logic 𝓤} {K : Type 0} {Γ : List (Item 𝓤)} {G : Goal 𝓤 𝓛.H} where
    pub pointer_parts : K → (p : (pointer.the_row Row Alloc ghosts).Denot) (values : List Val)
        → ((b o : ℕ) (handle : Val) → p.at ≡ block_ptr b o → values ≡ of_two (vptr b o) handle ∷ [] → Good (layout Alloc) handle
        → Seq K 𝓛 (‵ (Owned p.alloc (block_ptr b o) p.value) ∷ ‵ (Alloc.own_val p.alloc (handle ∷ [])) ∷ Γ) G)
        → Seq K 𝓛 (‵ ((pointer.the_row Row Alloc ghosts).own_val p values) ∷ Γ) G
    pointer_parts t p values then =
        fsplit t $ fpick t (λ fields. fsplit t $ feq_l t (λ is_struct. fsplit t $ feq_l t (λ is_pointer. fsplit t $
        handle_tells handles t p.alloc fields.1.0 (λ handle is_handle good. move t (1 ∷ []) $ drop t $ move t (1 ∷ []) $
        in_a_block t p.at (λ at. Owned p.alloc at p.value) (fst∗ 𝓤 (never 𝓤) (sem 𝓛 (ghosts.dealloc_token p.alloc (bare (lone Row.mir)) null_ptr))) (λ b o in_block.
        let one : values ≡ vstruct (of_list (ptr_val p.at ∷ (fields.1.0 ++ []))) ∷ [] = subst (λ (at : List Val). values ≡ vstruct (of_list (at ++ (fields.1.0 ++ []))) ∷ []) is_pointer is_struct in
        let two : values ≡ of_two (ptr_val p.at) handle ∷ [] = subst (λ (hs : List Val). values ≡ vstruct (of_list (ptr_val p.at ∷ (hs ++ []))) ∷ []) is_handle one in
        then b o handle in_block (subst (λ (at : Ptr). values ≡ of_two (ptr_val at) handle ∷ []) in_block two) good)))))

    pub pointer_made : K → (b o : ℕ) (handle : Val) (alloc : Alloc.Denot) (value : Row.Denot)
        → Step K 𝓛 (‵ ((pointer.the_row Row Alloc ghosts).own_val (record { at = block_ptr b o; alloc = alloc; value = value }) (of_two (vptr b o) handle ∷ [])) ∷ Γ) G
        (‵ (Owned alloc (block_ptr b o) value) ∷ ‵ (Alloc.own_val alloc (handle ∷ [])) ∷ Γ) G
    pointer_made t b o handle alloc value = step (λ rest.
        nothing t $ move t (2 ∷ 0 ∷ []) $ fjoin t $ feq_i t (List Val) (vptr b o ∷ []) (vptr b o ∷ []) refl $ fjoin t $
        feq_i t (List Val) (of_two (vptr b o) handle ∷ []) (of_two (vptr b o) handle ∷ []) refl $ fjoin t $
        fpack t (Valss (RawPtr ∷ Alloc ∷ [])) (within (shape (pointer.the_type Row Alloc ghosts)) (block_ptr b o, (alloc, tt)) (of_two (vptr b o) handle ∷ [])) (vptr b o ∷ [], (handle ∷ [], tt)) $ fjoin t $ rest)
