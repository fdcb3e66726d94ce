-- Places that belong to a fault, one after another.
use Rattle.std.proofs.Common.{◌≡◌, ℕ, ◌+◌, ◌<◌, Bool, true, false, cond, append-nil, List, [], ◌∷◌, ◌++◌, length, get_or, take, sym, subst}
use Rattle.std.specs.Prelude.{Option}
use Rattle.std.proofs.lemmas.List.Elements.{filter_more}
use Rattle.graphql_names.specs.declared.span.SourceSpan.{SourceSpan}
use Rattle.report_forms.specs.declared.entry.Related.{Related}
use Rattle.report_forms.specs.declared.noted.Noted.{Noted}
use Rattle.report_forms.specs.declared.source.Source.{Source}
use Rattle.report_forms.specs.Noted.{is_other, others, IsRelated, AreRelated}

related_append : (sources : List Source) (ns ms : List Noted) (rs ts : List Related) → AreRelated sources ns rs → AreRelated sources ms ts → AreRelated sources (ns ++ ms) (rs ++ ts)
related_append sources [] ms [] ts h i = i
related_append sources [] ms (r ∷ rs) ts h i = absurd h
related_append sources (n ∷ ns) ms [] ts h i = absurd h
related_append sources (n ∷ ns) ms (r ∷ rs) ts h i = (h.0, related_append sources ns ms rs ts h.1 i)

-- a place that is another is added, one that is none is not
pub one_more : (sources : List Source) (own : Option SourceSpan) (noted : List Noted) (k : ℕ) (d : Noted) (old new : List Related) (r : Related) → k < length noted
    → AreRelated sources (others own (take k noted)) old → is_other own (get_or noted k d).place ≡ true → new ≡ old ++ r ∷ [] → IsRelated sources (get_or noted k d) r
    → AreRelated sources (others own (take (k + 1) noted)) new
one_more sources own noted k d old new r l h b e is =
    let n = get_or noted k d in
    subst (λ (ns : List Noted). AreRelated sources ns new) (sym (filter_more (λ (n : Noted). is_other own n.place) noted k d l))
    (subst (λ (rs : List Related). AreRelated sources (others own (take k noted) ++ others own (n ∷ [])) rs) (sym e)
    (related_append sources (others own (take k noted)) (others own (n ∷ [])) old (r ∷ []) h
    (subst (λ (t : Bool). AreRelated sources (cond t (n ∷ []) []) (r ∷ [])) (sym b) (is, tt))))

pub none_more : (sources : List Source) (own : Option SourceSpan) (noted : List Noted) (k : ℕ) (d : Noted) (old : List Related) → k < length noted
    → AreRelated sources (others own (take k noted)) old → is_other own (get_or noted k d).place ≡ false → AreRelated sources (others own (take (k + 1) noted)) old
none_more sources own noted k d old l h b =
    let n = get_or noted k d in
    subst (λ (ns : List Noted). AreRelated sources ns old) (sym (filter_more (λ (n : Noted). is_other own n.place) noted k d l))
    (subst (λ (rs : List Related). AreRelated sources (others own (take k noted) ++ others own (n ∷ [])) rs) (append-nil old)
    (related_append sources (others own (take k noted)) (others own (n ∷ [])) old [] h
    (subst (λ (t : Bool). AreRelated sources (cond t (n ∷ []) []) []) (sym b) tt)))
