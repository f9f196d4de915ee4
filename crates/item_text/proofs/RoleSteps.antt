-- Roles of lines: one line more.
use Rattle.std.proofs.Common.{◌≡◌, ℕ, List, [], ◌∷◌, ◌++◌, map, None, refl, sym, ◌∙◌, ap, append-nil, append_assoc}
use Rattle.std.specs.List.{filter_map}
use Rattle.item_text.specs.Lines.{Line, trimmed}
use Rattle.item_text.specs.Components.{Kind, Place, Before, placed, placed_from, next_place, kind_of}
use Rattle.item_text.specs.Refusals.{fault_at, fault_of}
use Rattle.item_text.specs.declared.edit.Role.{Role}
use Rattle.item_text.specs.Edits.{role_at, role_of}
use Rattle.item_text.proofs.Relabelled.{none_line, roles_line}

-- the roles so far and those of the lines behind them, which have no fault
pub record Met (place : Place) (roles : List Role) (rest : List Line) (all : List Role) : Type 0 where
  pub same : roles ++ map role_of (placed_from place rest) ≡ all
  pub fine : filter_map fault_of (placed_from place rest) ≡ []

pub met_first : (place : Place) (roles : List Role) (all : List Line) → place ≡ Before → roles ≡ [] → filter_map fault_of (placed all) ≡ [] → Met place roles all (map role_of (placed all))
unfolding placed
met_first place roles all h k fine = record {
  same = ap (λ (rs : List Role). rs ++ map role_of (placed_from place all)) k ∙ ap (λ (p : Place). map role_of (placed_from p all)) h;
  fine = ap (λ (p : Place). filter_map fault_of (placed_from p all)) h ∙ fine;
}

pub kind_met : (text cut : List ℕ) (kind : Kind) → cut ≡ trimmed text → kind ≡ kind_of cut → kind_of (trimmed text) ≡ kind
kind_met text cut kind h k = sym (k ∙ ap kind_of h)

pub fits_met : {place : Place} {roles all : List Role} {lines rest : List Line} {line : Line} {kind : Kind} → Met place roles lines all → lines ≡ line ∷ rest → kind_of (trimmed line.text) ≡ kind → fault_at line.number place kind ≡ None
fits_met {place} {roles} {all} {lines} {rest} {line} {kind} met e k =
    ap (fault_at line.number place) (sym k) ∙ (none_line place line rest (ap (λ (ls : List Line). filter_map fault_of (placed_from place ls)) (sym e) ∙ met.fine)).0

pub met_next : {place next : Place} {roles now all : List Role} {lines rest : List Line} {line : Line} {kind : Kind} {role : Role} → Met place roles lines all → lines ≡ line ∷ rest → kind_of (trimmed line.text) ≡ kind
    → role ≡ role_at place kind → next ≡ next_place place kind → now ≡ roles ++ (role ∷ []) → Met next now rest all
met_next {place} {next} {roles} {now} {all} {lines} {rest} {line} {kind} {role} met e k r n p =
    let there : next ≡ next_place place (kind_of (trimmed line.text)) = n ∙ ap (next_place place) (sym k) in
    let is : role ≡ role_at place (kind_of (trimmed line.text)) = r ∙ ap (role_at place) (sym k) in
    record {
      same = ap (λ (rs : List Role). rs ++ map role_of (placed_from next rest)) p
          ∙ (append_assoc roles (role ∷ []) (map role_of (placed_from next rest))
          ∙ (ap (λ (q : Place). roles ++ (role ∷ map role_of (placed_from q rest))) there
          ∙ (ap (λ (x : Role). roles ++ (x ∷ map role_of (placed_from (next_place place (kind_of (trimmed line.text))) rest))) is
          ∙ (ap (λ (rs : List Role). roles ++ rs) (sym (roles_line place line rest))
          ∙ (ap (λ (ls : List Line). roles ++ map role_of (placed_from place ls)) (sym e) ∙ met.same)))));
      fine = ap (λ (q : Place). filter_map fault_of (placed_from q rest)) there
          ∙ (none_line place line rest (ap (λ (ls : List Line). filter_map fault_of (placed_from place ls)) (sym e) ∙ met.fine)).1;
    }

no_roles : (place : Place) → map role_of (placed_from place []) ≡ []
unfolding placed_from
no_roles place = refl

pub met_all : {place : Place} {roles all : List Role} {lines : List Line} → lines ≡ [] → Met place roles lines all → roles ≡ all
met_all {place} {roles} {all} {lines} h met = sym (append-nil roles) ∙ (ap (λ (rs : List Role). roles ++ rs) (sym (ap (λ (ls : List Line). map role_of (placed_from place ls)) h ∙ no_roles place)) ∙ met.same)
