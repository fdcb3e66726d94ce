-- How the parts of a number are found.
use Rattle.std.proofs.Common.{◌≡◌, ℕ, ◌+◌, suc, Bool, true, false, ◌&&◌, ◌||◌, cond, not, List, [], ◌∷◌, ◌++◌, refl, ap, sym, subst, ◌∙◌, take, drop, ◌==◌, ◌≢◌, length, arith}
use Rattle.std.specs.List.{list_all, prefix_len}
use Rattle.std.specs.Char.{is_ascii_digit}
use Rattle.std.proofs.lemmas.List.Sums.{prefix_len-le-length}
use Rattle.std.proofs.lemmas.Bool.Decides.{Decides-eqb}
use Rattle.tree_literals.specs.NumberSyntax.{is_digits, is_nothing, has_leading_zero, is_natural, is_fraction, is_exponent, without_minus, without_sign, followed_by, is_float_tail, is_float_value}

or_false : (b : Bool) → (b || false) ≡ b
or_false true = refl
or_false false = refl

and_true : (b : Bool) → (b && true) ≡ b
and_true true = refl
and_true false = refl

and_false : (b : Bool) → (b && false) ≡ false
and_false true = refl
and_false false = refl

and_or : (a x y : Bool) → ((a && x) || (a && y)) ≡ (a && (x || y))
and_or true x y = refl
and_or false x y = refl

one-add : (n : ℕ) → 1 + n ≡ suc n
one-add n = omega arith

-- no front is a p
followed_by-none : (p q : List ℕ → Bool) → ((ys : List ℕ) → p ys ≡ false) → (text : List ℕ) → followed_by p q text ≡ false
followed_by-none p q none [] = ap (λ b. b && q []) (none [])
followed_by-none p q none (c ∷ cs) =
    ap (λ b. (b && q (c ∷ cs)) || followed_by (λ ds. p (c ∷ ds)) q cs) (none [])
    ∙ followed_by-none (λ ds. p (c ∷ ds)) q (λ ys. none (c ∷ ys)) cs

-- what follows is nothing
followed_by-nothing : (p : List ℕ → Bool) (text : List ℕ) → followed_by p is_nothing text ≡ p text
followed_by-nothing p [] = and_true (p [])
followed_by-nothing p (c ∷ cs) =
    ap (λ b. b || followed_by (λ ds. p (c ∷ ds)) is_nothing cs) (and_false (p []))
    ∙ followed_by-nothing (λ ds. p (c ∷ ds)) cs

cut-digit : (p q : List ℕ → Bool) (c : ℕ) (cs : List ℕ) (n : ℕ) → q (c ∷ cs) ≡ false → followed_by (λ ds. p (c ∷ ds)) q cs ≡ (p (c ∷ take n cs) && q (drop n cs)) → followed_by p q (c ∷ cs) ≡ (p (take (1 + n) (c ∷ cs)) && q (drop (1 + n) (c ∷ cs)))
cut-digit p q c cs n none rest =
    ap (λ b. (p [] && b) || followed_by (λ ds. p (c ∷ ds)) q cs) none
    ∙ ap (λ b. b || followed_by (λ ds. p (c ∷ ds)) q cs) (and_false (p []))
    ∙ rest
    ∙ ap (λ k. p (take k (c ∷ cs)) && q (drop k (c ∷ cs))) (sym (one-add n))

cut-other : (p q : List ℕ → Bool) (c : ℕ) (cs : List ℕ) → ((ys : List ℕ) → p (c ∷ ys) ≡ false) → followed_by p q (c ∷ cs) ≡ (p [] && q (c ∷ cs))
cut-other p q c cs none =
    ap (λ b. (p [] && q (c ∷ cs)) || b) (followed_by-none (λ ds. p (c ∷ ds)) q none cs)
    ∙ or_false (p [] && q (c ∷ cs))

-- the first part has only digits and the second begins with none: the one place to cut is where the digits end
pub followed_by-digits : (p q : List ℕ → Bool) → ((ys zs : List ℕ) (y : ℕ) → is_ascii_digit y ≡ false → p (ys ++ (y ∷ zs)) ≡ false) → ((y : ℕ) (ys : List ℕ) → is_ascii_digit y ≡ true → q (y ∷ ys) ≡ false) → (text : List ℕ) → followed_by p q text ≡ (p (take (prefix_len is_ascii_digit text) text) && q (drop (prefix_len is_ascii_digit text) text))
followed_by-digits p q only starts [] = refl
followed_by-digits p q only starts (c ∷ cs) =
    by (is_ascii_digit c) refl (followed_by-digits (λ ds. p (c ∷ ds)) q (λ ys zs y h. only (c ∷ ys) zs y h) starts cs)
  where
    by : (b : Bool) → is_ascii_digit c ≡ b → followed_by (λ ds. p (c ∷ ds)) q cs ≡ (p (c ∷ take (prefix_len is_ascii_digit cs) cs) && q (drop (prefix_len is_ascii_digit cs) cs)) → followed_by p q (c ∷ cs) ≡ (p (take (cond b (1 + prefix_len is_ascii_digit cs) 0) (c ∷ cs)) && q (drop (cond b (1 + prefix_len is_ascii_digit cs) 0) (c ∷ cs)))
    by true e rest = cut-digit p q c cs (prefix_len is_ascii_digit cs) (starts c cs e) rest
    by false e rest = cut-other p q c cs (λ ys. only [] ys c e)

all_only : (ys zs : List ℕ) (y : ℕ) → is_ascii_digit y ≡ false → list_all is_ascii_digit (ys ++ (y ∷ zs)) ≡ false
all_only [] zs y e = ap (λ b. b && list_all is_ascii_digit zs) e
all_only (d ∷ ds) zs y e = ap (λ b. is_ascii_digit d && b) (all_only ds zs y e) ∙ and_false (is_ascii_digit d)

digits_only : (ys zs : List ℕ) (y : ℕ) → is_ascii_digit y ≡ false → is_digits (ys ++ (y ∷ zs)) ≡ false
digits_only [] zs y e = all_only [] zs y e
digits_only (d ∷ ds) zs y e = all_only (d ∷ ds) zs y e

natural_only : (ys zs : List ℕ) (y : ℕ) → is_ascii_digit y ≡ false → is_natural (ys ++ (y ∷ zs)) ≡ false
natural_only ys zs y e = ap (λ b. b && not (has_leading_zero (ys ++ (y ∷ zs)))) (digits_only ys zs y e)

pub not_digit : (k y : ℕ) → is_ascii_digit k ≡ false → is_ascii_digit y ≡ true → (y == k) ≡ false
not_digit k y other e = by (y == k) refl
  where
    by : (b : Bool) → (y == k) ≡ b → b ≡ false
    by false h = refl
    by true h = let same : y ≡ k = (Decides-eqb y k).0 h in let wrong : is_ascii_digit k ≡ true = subst (λ n. is_ascii_digit n ≡ true) same e in sym wrong ∙ other

fraction-other : (c : ℕ) (cs : List ℕ) → (c == 46) ≡ false → is_fraction (c ∷ cs) ≡ false
fraction-other c cs e = ap (λ b. b && is_digits cs) e

-- no fraction begins there
pub tail-other : (c : ℕ) (cs : List ℕ) → (c == 46) ≡ false → is_float_tail (c ∷ cs) ≡ is_exponent (c ∷ cs)
tail-other c cs e =
    ap (λ b. b || (is_exponent (c ∷ cs) || followed_by is_fraction is_exponent (c ∷ cs))) (fraction-other c cs e)
    ∙ ap (λ b. is_exponent (c ∷ cs) || b) (followed_by-none (λ ds. is_fraction (c ∷ ds)) is_exponent (λ ys. fraction-other c ys e) cs)
    ∙ or_false (is_exponent (c ∷ cs))

exponent-digit : (y : ℕ) (ys : List ℕ) → is_ascii_digit y ≡ true → is_exponent (y ∷ ys) ≡ false
exponent-digit y ys e = ap (λ b. (b || y == 69) && is_digits (without_sign ys)) (not_digit 101 y refl e) ∙ ap (λ b. b && is_digits (without_sign ys)) (not_digit 69 y refl e)

tail-digit : (y : ℕ) (ys : List ℕ) → is_ascii_digit y ≡ true → is_float_tail (y ∷ ys) ≡ false
tail-digit y ys e = tail-other y ys (not_digit 46 y refl e) ∙ exponent-digit y ys e

-- a Float without its sign is cut where its first digits end
pub float_cut : (text : List ℕ) → followed_by is_natural is_float_tail text ≡ (is_natural (take (prefix_len is_ascii_digit text) text) && is_float_tail (drop (prefix_len is_ascii_digit text) text))
float_cut text = followed_by-digits is_natural is_float_tail natural_only tail-digit text

-- a fraction is cut where its digits end
pub fraction_cut : (rest : List ℕ) → is_float_tail (46 ∷ rest) ≡ (is_digits (take (prefix_len is_ascii_digit rest) rest) && (is_nothing (drop (prefix_len is_ascii_digit rest) rest) || is_exponent (drop (prefix_len is_ascii_digit rest) rest)))
fraction_cut rest =
    ap (λ b. b || followed_by is_digits is_exponent rest) (sym (followed_by-nothing is_digits rest) ∙ followed_by-digits is_digits is_nothing digits_only (λ y ys e. refl) rest)
    ∙ ap (λ b. (is_digits (take (prefix_len is_ascii_digit rest) rest) && is_nothing (drop (prefix_len is_ascii_digit rest) rest)) || b) (followed_by-digits is_digits is_exponent digits_only exponent-digit rest)
    ∙ and_or (is_digits (take (prefix_len is_ascii_digit rest) rest)) _ _

-- the digits that stand first are no more than there are bytes
pub ruleset prefix_len_rules = (prefix_len-le-length)

eq_false : (y k : ℕ) → y ≢ k → (y == k) ≡ false
eq_false y k n = by (y == k) refl
  where
    by : (b : Bool) → (y == k) ≡ b → b ≡ false
    by false h = refl
    by true h = absurd (n ((Decides-eqb y k).0 h))

-- the same where the first byte is known
pub tail-exponent : (bs cs : List ℕ) (c : ℕ) (r : Bool) → bs ≡ c ∷ cs → c ≢ 46 → r ≡ is_exponent bs → r ≡ is_float_tail bs
tail-exponent bs cs c r e n h = h ∙ ap is_exponent e ∙ sym (tail-other c cs (eq_false c 46 n)) ∙ ap is_float_tail (sym e)

pub tail-fraction : (bs cs : List ℕ) (c : ℕ) (r : Bool) → bs ≡ c ∷ cs → c ≡ 46 → r ≡ is_float_tail (46 ∷ cs) → r ≡ is_float_tail bs
tail-fraction bs cs c r e d h = h ∙ ap (λ x. is_float_tail (x ∷ cs)) (sym d) ∙ ap is_float_tail (sym e)

pub ruleset tail_rules = (tail-exponent, tail-fraction)

-- digits, of which there are some
pub digits-nonempty : (bs cs : List ℕ) (c : ℕ) (r : Bool) → bs ≡ c ∷ cs → r ≡ list_all is_ascii_digit bs → r ≡ is_digits bs
digits-nonempty bs cs c r e h = h ∙ ap (list_all is_ascii_digit) e ∙ ap is_digits (sym e)

pub nothing-length : (es : List ℕ) → false ≡ (length es == 0) → false ≡ is_nothing es
nothing-length [] h = h
nothing-length (e ∷ es) h = refl

-- what follows a `.` is cut where its digits end
pub fraction-end : (bs ds es : List ℕ) (n : ℕ) (r : Bool) → n ≡ prefix_len is_ascii_digit bs → ds ≡ take n bs → es ≡ drop n bs → r ≡ (is_digits ds && (is_nothing es || is_exponent es)) → r ≡ is_float_tail (46 ∷ bs)
fraction-end bs ds es n r e front back h =
    h
    ∙ ap (λ xs. is_digits xs && (is_nothing es || is_exponent es)) front
    ∙ ap (λ xs. is_digits (take n bs) && (is_nothing xs || is_exponent xs)) back
    ∙ ap (λ k. is_digits (take k bs) && (is_nothing (drop k bs) || is_exponent (drop k bs))) e
    ∙ sym (fraction_cut bs)

-- a Float is cut after its sign and where the digits of its integer end
pub float-text : (text us ds es : List ℕ) (n : ℕ) (r : Bool) → us ≡ without_minus text → n ≡ prefix_len is_ascii_digit us → ds ≡ take n us → es ≡ drop n us → r ≡ (is_natural ds && is_float_tail es) → r ≡ is_float_value text
float-text text us ds es n r sign e front back h =
    h
    ∙ ap (λ xs. is_natural xs && is_float_tail es) front
    ∙ ap (λ xs. is_natural (take n us) && is_float_tail xs) back
    ∙ ap (λ k. is_natural (take k us) && is_float_tail (drop k us)) e
    ∙ sym (float_cut us)
    ∙ ap (followed_by is_natural is_float_tail) sign
