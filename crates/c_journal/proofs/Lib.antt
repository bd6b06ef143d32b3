-- What C is answered by the calls on journals, proved.
pub mod Laws
