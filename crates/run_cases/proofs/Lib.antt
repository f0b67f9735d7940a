mod ClosePoints
